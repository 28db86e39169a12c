-- Laws of the lists: each is read behind the one before.
use Rattle.std.specs.Prelude.{Bool, List, ◌≡◌, refl, ℕ, length, drop, Ok, Err}
use Rattle.std.proofs.Math.Path.{sym}
use Rattle.std.proofs.Common.{ap, ◌∙◌, arith}
use Rattle.definitions.specs.Parse as parse
use Rattle.definitions.specs.Parse.{Parsed, done, refused, next, ◌>>=◌, pure, counted}
use Rattle.definitions.specs.Reading.{word, type_info, extension, sheet}
use Rattle.definitions.specs.Records.{TypeInfo, Extension, Sheet}
use Rattle.bits.specs.declared.Cursor.{Cursor}
use Rattle.fields.specs.declared.Fault.{Fault}
use Rattle.fields.specs.Fields.{fault_of}
use Rattle.sheet.specs.Sheets.{version, lists, of_opening}
use Rattle.sheet.specs.SheetLaws.{sheet-parts}
use Rattle.sheet_words.specs.Words.{Telling, telling_of, told, of_words_read}
use Rattle.sheet_words.specs.declared.WordsRead.{WordsRead}
use Rattle.sheet_decode.specs.Lists.{telling_in, Seen, seen, records}

-- ---- the sheet

pub sheet-seen : (bs : List Bool) → seen (sheet bs) ≡ next (version bs) (λ v cs. next (told (counted 8 2 200 word cs)) records)
unfolding lists records
sheet-seen bs = ap seen (sheet-parts bs) ∙ go (version bs)
  where
    ends : (ws : List (List ℕ)) (ts : List TypeInfo) (x : Parsed (List Extension)) →
        seen (next x (λ es. pure (record { words = ws; types = ts; extensions = es })))
        ≡ next x (λ es. pure (record { telling = telling_of ws; types = ts; extensions = es }))
    ends ws ts (done es rest) = refl
    ends ws ts (refused r) = refl

    types : (ws : List (List ℕ)) (x : Parsed (List TypeInfo)) →
        seen (next x (λ ts. counted 6 0 32 (extension (length ws)) >>= λ es. pure (record { words = ws; types = ts; extensions = es })))
        ≡ next x (λ ts. counted 6 0 32 (extension (length ws)) >>= λ es. pure (record { telling = telling_of ws; types = ts; extensions = es }))
    types ws (done ts rest) = ends ws ts (counted 6 0 32 (extension (length ws)) rest)
    types ws (refused r) = refl

    words : (x : Parsed (List (List ℕ))) →
        seen (next x (λ ws. counted 7 0 64 (type_info (length ws)) >>= λ ts. counted 6 0 32 (extension (length ws)) >>= λ es. pure (record { words = ws; types = ts; extensions = es })))
        ≡ next (told x) records
    words (done ws rest) = types ws (counted 7 0 64 (type_info (length ws)) rest)
    words (refused r) = refl

    go : (x : Parsed ℕ) → seen (next x (λ v. lists)) ≡ next x (λ v cs. next (told (counted 8 2 200 word cs)) records)
    go (done v rest) = words (counted 8 2 200 word rest)
    go (refused r) = refl

-- where the version, or a word, is refused; and where they are read
module _ (bs : List Bool) where
  pub no-version : (n : Fault) → of_opening bs (Err n) ≡ version bs → refused (fault_of n) ≡ seen (sheet bs)
  no-version n e = sym (sheet-seen bs ∙ rw (← e))

  module _ (c : Cursor) (e : of_opening bs (Ok c) ≡ version bs) where
    pub no_words : (n : Fault) → of_words_read bs (Err n) ≡ told (counted 8 2 200 word (drop c.at bs)) → refused (fault_of n) ≡ seen (sheet bs)
    no_words n f = sym (sheet-seen bs ∙ rw (← e, ← f))

    pub words-read : (w : WordsRead) → of_words_read bs (Ok w) ≡ told (counted 8 2 200 word (drop c.at bs)) →
        {x : Parsed Seen} → x ≡ records (telling_in w) (drop w.at bs) → x ≡ seen (sheet bs)
    words-read w f g = g ∙ sym (sheet-seen bs ∙ rw (← e, ← f))

-- the same of the lists behind
module _ (w : Telling) (cs : List Bool) where
  pub no-types : (n : parse.Fault) → refused n ≡ counted 7 0 64 (type_info w.count) cs → refused n ≡ records w cs
  unfolding records
  no-types n e = sym (rw (← e))

  module _ (ts : List TypeInfo) (rest : List Bool) (e : done ts rest ≡ counted 7 0 64 (type_info w.count) cs) where
    pub no-extensions : (n : parse.Fault) → refused n ≡ counted 6 0 32 (extension w.count) rest → refused n ≡ records w cs
    unfolding records
    no-extensions n f = sym (rw (← e, ← f))

    pub records-read : (es : List Extension) (left : List Bool) → done es left ≡ counted 6 0 32 (extension w.count) rest →
        done (record { telling = w; types = ts; extensions = es }) left ≡ records w cs
    unfolding records
    records-read es left f = sym (rw (← e, ← f))

-- ---- the words of the sheet

module _ (bs : List Bool) (c : Cursor) (e : of_opening bs (Ok c) ≡ version bs) where
  -- they are those that are read behind the version
  pub words_are : (s : Sheet) (rest : List Bool) → sheet bs ≡ done s rest → (left : List Bool) × (counted 8 2 200 word (drop c.at bs) ≡ done s.words left)
  unfolding lists
  words_are s rest q = counting (counted 8 2 200 word (drop c.at bs)) refl (sym (sheet-parts bs ∙ rw (← e)) ∙ q)
    where
      Words : List (List ℕ) → Type 0
      Words ws = ws ≡ s.words

      ends : (ws : List (List ℕ)) (ts : List TypeInfo) (x : Parsed (List Extension)) →
          next x (λ es. pure (record { words = ws; types = ts; extensions = es })) ≡ done s rest → Words ws
      ends ws ts (done es r) f = let z : record { words = ws; types = ts; extensions = es } ≡ s = cc in ap (λ (t : Sheet). t.words) z
      ends ws ts (refused r) f = let z : ◌≡◌ {A = ℕ} 0 1 = cc in absurd (omega arith)

      types : (ws : List (List ℕ)) (x : Parsed (List TypeInfo)) →
          next x (λ ts. counted 6 0 32 (extension (length ws)) >>= λ es. pure (record { words = ws; types = ts; extensions = es })) ≡ done s rest → Words ws
      types ws (done ts r) f = ends ws ts (counted 6 0 32 (extension (length ws)) r) f
      types ws (refused r) f = let z : ◌≡◌ {A = ℕ} 0 1 = cc in absurd (omega arith)

      counting : (x : Parsed (List (List ℕ))) → counted 8 2 200 word (drop c.at bs) ≡ x →
          next x (λ ws. counted 7 0 64 (type_info (length ws)) >>= λ ts. counted 6 0 32 (extension (length ws)) >>= λ es. pure (record { words = ws; types = ts; extensions = es })) ≡ done s rest
          → (left : List Bool) × (counted 8 2 200 word (drop c.at bs) ≡ done s.words left)
      counting (done ws r) p f = (r, p ∙ ap (λ (l : List (List ℕ)). done l r) (types ws (counted 7 0 64 (type_info (length ws)) r) f))
      counting (refused r) p f = let z : ◌≡◌ {A = ℕ} 0 1 = cc in absurd (omega arith)
