-- One type more.
use Rattle.std.proofs.Math.Bool.{Bool, or-false}
use Rattle.std.specs.Prelude.{false, ◌&&◌, ◌||◌, not, ◌≡◌, refl, ℕ, zero, suc, ◌<◌, eqb, length}
use mathlib.Core.List.{List, [], ◌∷◌, ◌++◌, map}
use Rattle.std.proofs.Math.Path.{sym, ap}
use Rattle.std.proofs.Common.{ap₂, ◌∙◌, arith, eqb-true}
use Rattle.lists.specs.Lists.{null}
use Rattle.lists.specs.Tests.{by, or-false-left, or-false-right, eqb-flip}
use Rattle.lists.specs.Lexicographic.{numbers-same}
use Rattle.definitions.specs.Records.{Name, TypeInfo}
use Rattle.definitions.specs.Comparisons.{same_name}
use Rattle.definitions.specs.Map.{TypeMap}
use Rattle.definitions.specs.Inherited.{InheritedAnnotation}
use Rattle.definitions.specs.Synthesis.{listed_parents, interpret_type}
use Rattle.definitions.specs.Packing.{row_bytes}
use Rattle.rows.specs.Rows.{has_bit}
use Rattle.order_form.specs.Lists.{tab, tab-length, map-tab, tab-same}
use Rattle.order_form.specs.Reading.{how_many, listed, type_at, place_in, Reads}
use Rattle.order_form.specs.declared.Parent.{Parent}
use Rattle.order_form.specs.Names.{place_same}
use Rattle.order_form.specs.declared.Parents.{Parents}
use Rattle.law_parents.specs.Placed.{ParentsBelow}
use Rattle.law_parents.specs.Listed.{parent, parent-below}
use Rattle.synth_interpretation.specs.Emit.{emit}
use Rattle.law_visit.specs.Trail.{Reached, seen_in, Told, Played, succeeded, passes, flags_of, got_from, all_of, play, play_all, nothing_played}
use Rattle.synth_hearing.specs.Hearing.{hands_at, FlagsOf, WithOk}
use Rattle.synth_hearing.specs.declared.Flags.{Flags}
use Rattle.emitting.specs.Emitting.{State, emit-append}
use Rattle.emitting.specs.declared.Writer.{Writer}
use Rattle.emitting.specs.Writing.{state}
use Rattle.synthesis.specs.Going.{reached_at, Going}

-- ---- the two steps, type by type

pub play-last : (m : TypeMap) (d : Played) (l : List Reached) (x : Reached) → play_all m d (l ++ (x ∷ [])) ≡ play m (play_all m d l) x
unfolding play_all
play-last m d [] x = refl
play-last m d (y ∷ l) x = play-last m (play m d y) l x

-- who was not played has not succeeded
never-told : (m : TypeMap) (d : Played) (l : List Reached) (n : Name) → succeeded d.told n ≡ false → seen_in l n ≡ false → succeeded (play_all m d l).told n ≡ false
unfolding play_all play
never-told m d [] n e h = e
never-told m d (x ∷ l) n e h =
    let z : same_name n x.type.name ≡ false = or-false-left (same_name n x.type.name) (seen_in l n) h in
    never-told m (play m d x) l n (rw z e) (or-false-right (same_name n x.type.name) (seen_in l n) h)

-- two types have one name exactly if they are at one place
pub same-name : (m : TypeMap) (p : Parents) → Reads p m → (a t : ℕ) → a < p.count → t < p.count → same_name (type_at m a).name (type_at m t).name ≡ eqb t a
same-name m p r a t l k =
    place_same p m r (type_at m a).name t k
    ∙ ap (λ (n : ℕ). eqb n t) (eqb-true (place_in m (type_at m a).name) a (sym (place_same p m r (type_at m a).name a l) ∙ numbers-same {l = (type_at m a).name} refl))
    ∙ eqb-flip a t

-- ---- flags

flags-last : (told : List Told) (a : List Bool) (b : List TypeInfo) (f : Bool) (P : TypeInfo) → length a ≡ length b
    → flags_of told (a ++ (f ∷ [])) (b ++ (P ∷ [])) ≡ flags_of told a b ++ (passes told f P ∷ [])
flags-last told [] [] f P e = refl
flags-last told [] (Q ∷ b) f P e = absurd (omega arith)
flags-last told (g ∷ a) [] f P e = absurd (omega arith)
flags-last told (g ∷ a) (Q ∷ b) f P e = ap (λ (l : List Bool). passes told g Q ∷ l) (flags-last told a b f P (omega arith))

flags-tab : (told : List Told) (f : ℕ → Bool) (g : ℕ → TypeInfo) (n : ℕ) → flags_of told (tab f n) (tab g n) ≡ tab (λ i. passes told (f i) (g i)) n
flags-tab told f g zero = refl
flags-tab told f g (suc n) =
    flags-last told (tab f n) (tab g n) (f n) (g n) (tab-length f n ∙ sym (tab-length g n))
    ∙ ap (λ (l : List Bool). l ++ (passes told (f n) (g n) ∷ [])) (flags-tab told f g n)

module _ (m : TypeMap) (p : Parents) (r : Reads p m) (t : ℕ) (k : t < p.count) (b : ParentsBelow p t)
    (ps : listed_parents m (type_at m t) ≡ map (λ (q : Parent). type_at m q.place) (listed p t)) where
  parents-tab : listed_parents m (type_at m t) ≡ tab (λ i. type_at m (parent p t i).place) (how_many p t)
  unfolding listed
  parents-tab = ps ∙ map-tab (λ (q : Parent). type_at m q.place) (parent p t) (how_many p t)

  -- the flags of the code are those of the definition
  pub flags-are : (told : List Told) (fresh ok : ℕ) → ((a : ℕ) → a < p.count → has_bit ok a ≡ succeeded told (type_at m a).name)
      → flags_of told (tab (has_bit fresh) (how_many p t)) (listed_parents m (type_at m t)) ≡ tab (hands_at p t fresh ok) (how_many p t)
  flags-are told fresh ok w =
      ap (flags_of told (tab (has_bit fresh) (how_many p t))) parents-tab
      ∙ flags-tab told (has_bit fresh) (λ i. type_at m (parent p t i).place) (how_many p t)
      ∙ tab-same (λ i. passes told (has_bit fresh i) (type_at m (parent p t i).place)) (hands_at p t fresh ok) (how_many p t)
      (λ i l. ap (λ (c : Bool). not (has_bit fresh i) || c) (sym (w (parent p t i).place (parent-below p t b i l))))

  -- one type more, that was not played before
  module _ (before : List Reached) (w₀ : Writer) (fresh : ℕ) (w : Writer) (ok : ℕ) (g : Going m p before w₀ w ok)
      (z : seen_in before (type_at m t).name ≡ false) (f : Flags) (fl : FlagsOf p t fresh ok f) where
    abbrev told₀ : List Told
    told₀ = (play_all m nothing_played before).told

    abbrev x : Reached
    x = reached_at m p t fresh

    -- what the type gets
    abbrev pub got : List InheritedAnnotation
    got = got_from m (tab (has_bit f.row) (how_many p t)) (listed_parents m (type_at m t))

    same_flags : flags_of told₀ x.fresh (listed_parents m (type_at m t)) ≡ tab (has_bit f.row) (how_many p t)
    same_flags = flags-are told₀ fresh ok g.well ∙ sym fl.bits

    -- the played rows and calls, with this type
    played : play m (play_all m nothing_played before) x
        ≡ record {
          told = record { name = (type_at m t).name; ok = f.all && null (interpret_type m (type_at m t) got).rows } ∷ told₀;
          rows = (play_all m nothing_played before).rows ++ (interpret_type m (type_at m t) got).rows;
        }
    unfolding play
    played =
        let F : List Bool → Played = λ fs.
        record {
          told = record { name = (type_at m t).name; ok = all_of fs && null (interpret_type m (type_at m t) (got_from m fs (listed_parents m (type_at m t)))).rows } ∷ told₀;
          rows = (play_all m nothing_played before).rows ++ (interpret_type m (type_at m t) (got_from m fs (listed_parents m (type_at m t)))).rows;
        } in
        ap F same_flags
        ∙ ap
        (λ (c : Bool).
        record {
          told = record { name = (type_at m t).name; ok = c && null (interpret_type m (type_at m t) got).rows } ∷ told₀;
          rows = (play_all m nothing_played before).rows ++ (interpret_type m (type_at m t) got).rows;
        })
        (ap all_of fl.bits ∙ sym fl.whole)

    pub goes_on : (w' : Writer) (ok' : ℕ) (clean : Bool) → w.limit ≡ w₀.limit
        → state w' ≡ emit w.limit (state w) (interpret_type m (type_at m t) got).rows
        → clean ≡ null (interpret_type m (type_at m t) got).rows
        → WithOk ok t (f.all && clean) ok'
        → Going m p (before ++ (x ∷ [])) w₀ w' ok'
    goes_on w' ok' clean j e c y =
        let q : play_all m nothing_played (before ++ (x ∷ [])) ≡ record { told = record { name = (type_at m t).name; ok = f.all && null (interpret_type m (type_at m t) got).rows } ∷ told₀; rows = (play_all m nothing_played before).rows ++ (interpret_type m (type_at m t) got).rows } =
        play-last m nothing_played before x ∙ played in
        record {
          emits =
              e
              ∙ ap₂ (λ (n : ℕ) (st : State). emit n st (interpret_type m (type_at m t) got).rows) j g.emits
              ∙ sym (emit-append row_bytes w₀.limit (state w₀) (play_all m nothing_played before).rows (interpret_type m (type_at m t) got).rows)
              ∙ ap (λ (d : Played). emit w₀.limit (state w₀) d.rows) (sym q);
          well = λ a l.
              y.bits a
              ∙ by (eqb t a)
              (λ u.
              let v : has_bit ok a ≡ false = g.well a l ∙ ap (λ (n : ℕ). succeeded told₀ (type_at m n).name) (sym (eqb-true t a u)) ∙ never-told m nothing_played before (type_at m t).name refl z in
              rw (u, v) (ap (λ (d : Bool). f.all && d) c ∙ sym (ap (λ (d : Played). succeeded d.told (type_at m a).name) q ∙ rw (same-name m p r a t l k, u) (or-false (f.all && null (interpret_type m (type_at m t) got).rows)))))
              (λ u. rw u (or-false (has_bit ok a) ∙ g.well a l ∙ sym (ap (λ (d : Played). succeeded d.told (type_at m a).name) q ∙ rw (same-name m p r a t l k, u))));
        }
