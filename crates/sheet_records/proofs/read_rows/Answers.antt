use Rattle.sheet_records.specs.Annotations.{rows_for, row_of_word, row_of_tag}
use Rattle.sheet_records.specs.AnnotationLaws.{rows_nothing, rows_names}
use Rattle.std.proofs.Common.{sym}
use Rattle.sheet_records.proofs.read_rows.Goals as goal

pub returns-in-Associate : goal.returns-in-Associate
returns-in-Associate c = rw (rows_names _ _ _ c.in-Associate.is) c.read_names.ensures

pub returns-in-Alias : goal.returns-in-Alias
unfolding rows_for row_of_word
returns-in-Alias c = rw (c.in-Alias.is, c.one_row.ensures _, c.read_word_field.ensures)

pub returns-in-Derive : goal.returns-in-Derive
unfolding rows_for row_of_tag
returns-in-Derive c = rw (c.in-Derive.is, c.one_row-in-Derive.ensures _, c.read_tag.ensures)

pub returns-in-MakeList : goal.returns-in-MakeList
returns-in-MakeList c = rw c.new.ensures.0 (sym (rows_nothing _ _ _ c.in-MakeList.is))
