-- What the answers of the code mean, as the definitions' parsers give it.
use Rattle.std.specs.Prelude.{Bool, List, Result, Ok, Err, ℕ, eqb, length, drop}
use Rattle.definitions.specs.Parse.{Parsed, done, refused, Parser, ◌>>=◌, pure, allowed, counted}
use Rattle.definitions.specs.Reading.{word, type_info, extension}
use Rattle.definitions.specs.Records as records
use Rattle.bits.specs.declared.Cursor.{Cursor}
use Rattle.fields.specs.declared.Fault.{Fault}
use Rattle.fields.specs.Fields.{fault_of}

unfoldable pub version : Parser ℕ
version = allowed 4 (λ v. eqb v 1)

-- the three lists behind the version
unfoldable pub lists : Parser records.Sheet
lists = do
  ws ← counted 8 2 200 word
  ts ← counted 7 0 64 (type_info (length ws))
  es ← counted 6 0 32 (extension (length ws))
  pure (record { words = ws; types = ts; extensions = es })

-- the cursor behind the version stands for its number
abbrev pub of_opening : List Bool → Result Cursor Fault → Parsed ℕ
of_opening bs (Ok c) = done 1 (drop c.at bs)
of_opening bs (Err r) = refused (fault_of r)
