-- Laws of the extension records in a catalogue.
use Rattle.std.specs.Prelude.{Bool, List, [], ◌∷◌, ◌++◌, ◌≡◌, refl, ℕ, ◌+◌, ◌/◌, ◌%◌, ◌<◌, length, drop, get_or, set}
use Rattle.std.proofs.Math.Path.{sym, ap}
use native.Mathlib.Omega.{arith}
use Rattle.std.proofs.Math.Seq
use Rattle.lists.specs.Tabulating.{tabulate, tabulate-set}
use Rattle.definitions.specs.Parse as parse
use Rattle.definitions.specs.Parse.{Parsed, done, refused, next, pure, counted}
use Rattle.definitions.specs.Reading.{word_field, word_if_flag, name, extension}
use Rattle.fields.specs.FieldLaws.{word_lt}
use Rattle.sheet_keys.specs.Keys.{name_of_key, names_in}
use Rattle.catalogue.specs.declared.Catalogue.{Catalogue}
use Rattle.catalogue.specs.declared.Extension.{Extension}
use Rattle.catalogue.specs.Layout.{no_extension, extension_at}
use Rattle.sheet_extensions.specs.Records.{record_of, record_in, records_in}

-- ---- keys

-- a name that was read has a first word below W
pub key-low : (W k : ℕ) (bs rest : List Bool) → done (name_of_key k) rest ≡ name W bs → k / 256 < W
unfolding name name_of_key
key-low W k bs rest e = go (word_field W bs) refl e
  where
    at : (a : ℕ) (x : Parsed (List ℕ)) → a < W → done (name_of_key k) rest ≡ next x (λ b. pure (a ∷ b)) → k / 256 < W
    at a (done b left) h e =
        let q : name_of_key k ≡ a ∷ b = cc in
        let r : k / 256 ≡ a = ap (λ (l : List ℕ). get_or l 0 0) q in
        omega arith
    at a (refused r) h e = let z : ◌≡◌ {A = ℕ} 0 1 = cc in absurd (omega arith)

    go : (x : Parsed ℕ) → word_field W bs ≡ x → done (name_of_key k) rest ≡ next x (λ a cs. next (word_if_flag W cs) (λ b. pure (a ∷ b))) → k / 256 < W
    go (done a left) h e = at a (word_if_flag W left) (word_lt W bs a left h) e
    go (refused r) h e = let z : ◌≡◌ {A = ℕ} 0 1 = cc in absurd (omega arith)

-- ---- what the code read

module _ (W : ℕ) (bs : List Bool) (p : ℕ) where
  pub no_name : (r : parse.Fault) → refused r ≡ name W (drop p bs) → refused r ≡ extension W (drop p bs)
  unfolding extension
  no_name r e = sym (rw (← e))

  module _ (key at₁ : ℕ) (e : done (name_of_key key) (drop at₁ bs) ≡ name W (drop p bs)) where
    pub no_word : (r : parse.Fault) → refused r ≡ word_field W (drop at₁ bs) → refused r ≡ extension W (drop p bs)
    unfolding extension
    no_word r f = sym (rw (← e, ← f))

    module _ (w at₂ : ℕ) (f : done w (drop at₂ bs) ≡ word_field W (drop at₁ bs)) where
      pub no-added : (r : parse.Fault) → refused r ≡ counted 4 1 8 (name W) (drop at₂ bs) → refused r ≡ extension W (drop p bs)
      unfolding extension
      no-added r g = sym (rw (← e, ← f, ← g))

      pub record-read : (k count at : ℕ) (ps : List ℕ) → k / 256 ≡ key → k % 256 ≡ w →
          done (names_in ps count) (drop at bs) ≡ counted 4 1 8 (name W) (drop at₂ bs) →
          done (record_of (record { key = k; count = count; parents = ps })) (drop at bs) ≡ extension W (drop p bs)
      unfolding extension
      record-read k count at ps q r g = rw (q, r) (sym (rw (← e, ← f, ← g)))

-- ---- the records

pub records-none : (t : Catalogue) → records_in t 0 ≡ []
unfolding records_in tabulate
records-none t = refl

-- one record more
pub records-more : (t : Catalogue) (e : ℕ) (x : Extension) → e < length t.extensions → records_in (record t { extensions = set t.extensions e x }) (e + 1) ≡ records_in t e ++ (record_of x ∷ [])
unfolding records_in record_in
records-more t e x h =
    let u = set t.extensions e x in
    tabulate-set (λ j. record_of (extension_at t j)) (λ j. record_of (get_or u j no_extension)) e (record_of x)
    (λ j l. ap record_of (Seq.get_or-set_other t.extensions e j x no_extension (λ z. omega arith)))
    (ap record_of (Seq.get_or-set_same t.extensions e x no_extension h))
