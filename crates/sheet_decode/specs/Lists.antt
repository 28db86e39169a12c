-- What the decoder reads: the lists of a sheet, of the words no more than is asked later.
use Rattle.std.specs.Prelude.{Bool, List, ◌≡◌, ◌≤◌, drop, Result, Ok, Err}
use Rattle.definitions.specs.Parse.{Parsed, done, refused, Parser, next, ◌>>=◌, pure, counted}
use Rattle.definitions.specs.Reading.{type_info, extension, sheet}
use Rattle.definitions.specs.Records.{TypeInfo, Extension, Sheet}
use Rattle.fields.specs.declared.Fault.{Fault}
use Rattle.fields.specs.Fields.{fault_of}
use Rattle.catalogue.specs.declared.Catalogue.{Catalogue}
use Rattle.sheet_draft.specs.declared.Decoding.{Decoding}
use Rattle.sheet_draft.specs.declared.Draft.{Draft}
use Rattle.sheet_draft.specs.Draft.{types_in}
use Rattle.sheet_types.specs.Rows.{NotesRead}
use Rattle.sheet_extensions.specs.Records.{records_in}
use Rattle.sheet_reach.specs.Reach.{Reaches}
use Rattle.sheet_reach.specs.declared.Reach.{Reach}
use Rattle.sheet_words.specs.Words.{Telling, telling_of}
use Rattle.sheet_words.specs.declared.WordsRead.{WordsRead}
use Rattle.sheet_decode.specs.declared.Lists.{Lists}

-- What an answer tells.
abbrev pub telling_in : WordsRead → Telling
telling_in r = record { count = r.count; bad = r.bad; resource = r.resource; own = r.own }

-- A sheet, of its words no more than they tell.
pub record Seen : Type 0 where
  pub telling : Telling
  pub types : List TypeInfo
  pub extensions : List Extension

-- That of a sheet that a parser gives.
abbrev pub seen : Parsed Sheet → Parsed Seen
seen x = next x (λ s. pure (record { telling = telling_of s.words; types = s.types; extensions = s.extensions }))

-- The two lists behind the words (FORMAT 2.2).
unfoldable pub records : Telling → Parser Seen
records w = do
  ts ← counted 7 0 64 (type_info w.count)
  es ← counted 6 0 32 (extension w.count)
  pure (record { telling = w; types = ts; extensions = es })

-- An answer as a parser's, for the bits of a sheet, the draft and the catalogue.
abbrev pub of_lists : List Bool → Draft → Catalogue → Result Lists Fault → Parsed Seen
of_lists bs d t (Ok l) =
    done
    (record {
      telling = record { count = l.read.width; bad = l.bad; resource = l.read.resource; own = l.read.own };
      types = types_in l.read.width bs d l.read.count;
      extensions = records_in t l.read.extensions;
    })
    (drop l.at bs)
of_lists bs d t (Err r) = refused (fault_of r)

-- The counts are those that a sheet can have, and annotations and marks can be read again.
pub record Kept (bs : List Bool) (d : Draft) (n : Decoding) : Type 0 where
  pub width : n.width ≤ 200
  pub count : n.count ≤ 64
  pub extensions : n.extensions ≤ 32
  pub notes : NotesRead n.width bs d n.count

-- How far the words of the sheet in the bits reach (FORMAT 1.4).
abbrev pub WordsReached : List Bool → Reach → Type 0
WordsReached bs r = (s : Sheet) (rest : List Bool) → sheet bs ≡ done s rest → Reaches s.words r
