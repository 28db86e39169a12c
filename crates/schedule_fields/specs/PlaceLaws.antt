-- Laws of the places.
use Rattle.std.specs.Prelude.{◌≡◌, ℕ, zero, suc, ◌-◌, ◌^◌, ◌≤◌, ◌<◌}
use Rattle.std.proofs.Math.Path.{refl}
use Rattle.std.proofs.Common.{arith}
use Rattle.definitions.specs.ScheduleFields.{Fields, end, field, times, flag_fields, word_fields, pick, name_fields, parent_fields, mark_fields, marks_fields, made_fields}
use Rattle.definitions.specs.ScheduleFields.{line_fields, item_fields, schedule_fields}
use Rattle.schedule_fields.specs.declared.Place.{Place}
use Rattle.schedule_fields.specs.Places.{width_of, most_of, fields_at, fields_left}

-- ---- so many left, and flags

pub times_none : (n : ℕ) (f : Fields → Fields) (k : Fields) → n ≡ 0 → times n f k ≡ k
unfolding times
times_none zero f k e = refl
times_none (suc n) f k e = absurd (omega arith)

pub times_more : (n : ℕ) (f : Fields → Fields) (k : Fields) → 0 < n → times n f k ≡ f (times (n - 1) f k)
unfolding times
times_more zero f k h = absurd (omega arith)
times_more (suc n) f k h = let e : suc n - 1 ≡ n = omega arith in rw e refl

pub pick-none : (v : ℕ) (a b : Fields) → v ≡ 0 → pick v a b ≡ b
pick-none zero a b e = refl
pick-none (suc v) a b e = absurd (omega arith)

pub pick-one : (v : ℕ) (a b : Fields) → 0 < v → pick v a b ≡ a
pick-one zero a b h = absurd (omega arith)
pick-one (suc v) a b h = refl

-- ---- every field of the grammar

-- What holds of the first of so many fields: none is wider than 16 bits, and its values have no more bits than it; it is one
-- of those that are left; a field is at least one bit wide.
pub record Sound (f : Fields) (left : ℕ) : Type 0 where
  pub few : width_of f ≤ 16
  pub most : most_of f < 2 ^ width_of f
  pub some : 0 < width_of f → 0 < left
  pub ended : width_of f ≤ 0 → f ≡ end

a-field : (n least most : ℕ) (follow : ℕ → Fields) (left : ℕ) → 0 < n → n ≤ 16 → most < 2 ^ n → 0 < left → Sound (field n least most follow) left
a-field n least most follow left h k m l = record { few = k; most = m; some = λ _. l; ended = λ z. absurd (omega arith) }

a-flag : (follow : ℕ → Fields) (left : ℕ) → 0 < left → Sound (flag_fields follow) left
a-flag follow left l = a-field 1 0 1 follow left (omega arith) (omega arith) (omega arith) l

module _ (W : ℕ) (w : W ≤ 256) (z : 0 < W) where
  a_word : (k : Fields) (left : ℕ) → 0 < left → Sound (word_fields W k) left
  a_word k left l = a-field 8 0 (W - 1) (λ v. k) left (omega arith) (omega arith) (omega arith) l

  pub sound : (p : Place) → Sound (fields_at W p) (fields_left p)
  unfolding name_fields parent_fields mark_fields marks_fields made_fields line_fields item_fields schedule_fields
  sound Place.Names = a-field _ _ _ _ _ (omega arith) (omega arith) (omega arith) (omega arith)
  sound (Place.NameWord n) = a_word _ _ (omega arith)
  sound (Place.NameFlag n) = a-flag _ _ (omega arith)
  sound (Place.NameSecond n) = a_word _ _ (omega arith)
  sound Place.Items = a-field _ _ _ _ _ (omega arith) (omega arith) (omega arith) (omega arith)
  sound (Place.Lead n) = a-flag _ _ (omega arith)
  sound (Place.MadeWord n) = a_word _ _ (omega arith)
  sound (Place.MadeFlag n) = a-flag _ _ (omega arith)
  sound (Place.MadeSecond n) = a_word _ _ (omega arith)
  sound (Place.MadeResource n) = a_word _ _ (omega arith)
  sound (Place.MadeVirtual n) = a-flag _ _ (omega arith)
  sound (Place.Parents n) = a-field _ _ _ _ _ (omega arith) (omega arith) (omega arith) (omega arith)
  sound (Place.ParentWords n p) = a-field _ _ _ _ _ (omega arith) (omega arith) (omega arith) (omega arith)
  sound (Place.ParentWord n p k) = a_word _ _ (omega arith)
  sound (Place.Marks n) = a-field _ _ _ _ _ (omega arith) (omega arith) (omega arith) (omega arith)
  sound (Place.Mark n m) = a-flag _ _ (omega arith)
  sound (Place.Tag n m) = a-field _ _ _ _ _ (omega arith) (omega arith) (omega arith) (omega arith)
  sound (Place.LineWord n) = a_word _ _ (omega arith)
  sound (Place.LineFlag n) = a-flag _ _ (omega arith)
  sound (Place.LineSecond n) = a_word _ _ (omega arith)
  sound (Place.LineVirtual n) = a-flag _ _ (omega arith)
  sound (Place.LineTrait n) = a-flag _ _ (omega arith)
  sound (Place.LineResource n) = a_word _ _ (omega arith)
  sound Place.End = record { few = omega arith; most = omega arith; some = λ h. h; ended = λ _. refl }
