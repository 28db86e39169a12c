-- Laws of the sets that the writer walks, and of the items that it adds one after the other.
use Rattle.std.specs.Prelude.{Bool, false, ◌&&◌, ◌||◌, not, ◌≡◌, refl, ℕ, zero, suc, ◌+◌, ◌*◌, ◌^◌, ◌≤◌, ◌<◌, ltb, length, get_or, drop, set, replicate}
use Rattle.std.proofs.Math.Bool.{true, or-false, and-false, and-true}
use mathlib.Core.List.Memᴰ
use mathlib.Core.List.{List, [], ◌∷◌, ◌++◌, map, append-nil}
use Rattle.std.proofs.Math.Path.{sym, ap, ap₂}
use Rattle.std.proofs.Common.{◌∙◌, arith, length-set, get_or-set_same, get_or-set_other}
use Rattle.std.proofs.Math.Decide.{dec_lt}
use borrow.Author.Tests.{eq-eqb, ne_eqb, eqb-true, eqb-false, lt-ltb, le-ltb, ltb-true}
use Rattle.std.specs.Int.Bits.{bit_and, bit_or, and_le_l}
use Rattle.std.proofs.Math.Dec.{eqb}
use Rattle.lists.specs.Lists.{In, any, each}
use Rattle.lists.specs.Tests.{by, never, not_so, and_left, and_right, and_both, any-in, any_of, any_none}
use Rattle.lists.specs.Tabulating.{tabulate}
use Rattle.lists.specs.Places.{zero-at}
use Rattle.definitions.specs.Records.{Name}
use Rattle.definitions.specs.Comparisons.{dotted}
use Rattle.order_form.specs.Lists.{only, below, below-same, below_one}
use Rattle.rows.specs.Rows.{has_bit}
use Rattle.rows.specs.RowLaws.{bit-one, bit-none}
use Rattle.catalogue.specs.Layout.{key_at, head_at, parents_at, own_at, above_at, passed_at, word_at, mask_at, extension_key_at}
use Rattle.catalogue.specs.Catalogue.{added_in, parents_in}
use Rattle.catalogue.specs.declared.Catalogue.{Catalogue}
use Rattle.bitsets.specs.Bitsets.{members, Lowest, Rest, more}
use Rattle.bitsets.specs.BitLaws.{bit-both, bit-more, some-bit, below_of, in-below, members-next, members-none}
use Rattle.item_spread.specs.Spread.{United, WithIf}
use Rattle.item_fields.specs.Fields.{line_bits}
use Rattle.item_making.specs.Making.{name_in, first_in, classes_of, added, parents_of, making_bits, made_bits}
use Rattle.item_making.specs.Walks.{from_next, from_end}
use Rattle.item_making.specs.MakingLaws.{classes-alone}
use Rattle.item_writer.specs.declared.Site.{Site}
use Rattle.item_writer.specs.Items.{Sound, some, passes, passing_in, added_for, own_bits, inherited_bits, RecordsAre, own_items, inherited_items, word_items, makes, type_items, all_items, PassingIs, CommonIs, WithRecord, WordsFill, Cleared, WordsAre}

-- ---- sets

-- nothing from n on
pub below-cut : (f : ℕ → Bool) (n m : ℕ) → n ≤ m → ((x : ℕ) → n ≤ x → x < m → f x ≡ false) → below f m ≡ below f n
below-cut f n zero h z = let e : 0 ≡ n = omega arith in ap (below f) e
below-cut f n (suc m) h z =
    elim (dec_lt m n) [
      | yes l ↦ let e : suc m ≡ n = omega arith in ap (below f) e
      | no l ↦ ap₂ (λ (a : List ℕ) (b : Bool). a ++ only b m) (below-cut f n m (omega arith) (λ x p q. z x p (omega arith))) (z m (omega arith) (omega arith)) ∙ append-nil (below f n)
    ]

pub members-one : (c : ℕ) → c < 64 → members (2 ^ c) ≡ c ∷ []
unfolding members
members-one c h = below-same (has_bit (2 ^ c)) (λ x. eqb c x) 64 (λ x l. bit-one c x) ∙ below_one 64 c h

-- a set of one class is in order, whatever its dom
pub classes-one : (t : Catalogue) (c : ℕ) → c < 64 → classes_of t (2 ^ c) ≡ c ∷ []
classes-one t c h = classes-alone t (2 ^ c) c h (bit-one c)

-- ---- the parents that pass a class on

pub record PassingTo (t : Catalogue) (parents mask out left : ℕ) : Type 0 where
  pub bits : (p : ℕ) → (has_bit out p || (has_bit left p && some (bit_and (passed_at t p) mask))) ≡ passes t parents mask p

pub passing_none : (t : Catalogue) (parents mask : ℕ) → PassingTo t parents mask 0 parents
passing_none t parents mask = record { bits = λ p. ap (λ b. b || passes t parents mask p) (bit-none p) }

pub passing_more : (t : Catalogue) (parents mask out left k r next : ℕ) → Lowest left k → Rest left r → WithIf out k (some (bit_and (passed_at t k) mask)) next
    → PassingTo t parents mask out left → PassingTo t parents mask next r
passing_more t parents mask out left k r next w d f h =
    record {
      bits = λ p.
          let meets : ℕ → Bool = λ q. some (bit_and (passed_at t q) mask) in
          ap₂ (λ a b. a || (b && meets p)) (f.bits p) (d.bits k w p)
          ∙ by (eqb p k)
          (λ q.
          let e = eqb-true p k q in
          let z : has_bit left p ≡ true = ap (has_bit left) e ∙ w.there in
          rw (q, eq-eqb k p (sym e), z) (or-false (has_bit out p || meets k) ∙ ap (λ (x : ℕ). has_bit out p || meets x) (sym e)))
          (λ q. rw (q, ne_eqb k p (λ e. never (eq-eqb p k (sym e)) q)) (ap₂ (λ a b. a || (b && meets p)) (or-false (has_bit out p)) (and-true (has_bit left p))))
          ∙ h.bits p;
    }

pub passing_all : (t : Catalogue) (parents mask out left : ℕ) → left ≡ 0 → PassingTo t parents mask out left → PassingIs t parents mask out
passing_all t parents mask out left e h =
    record {
      bits = λ p.
          sym (or-false (has_bit out p))
          ∙ ap (λ b. has_bit out p || (b && some (bit_and (passed_at t p) mask))) (sym (ap (λ (x : ℕ). has_bit x p) e ∙ bit-none p))
          ∙ h.bits p;
    }

-- what all that are gone through pass on
pub record CommonTo (t : Catalogue) (types out left : ℕ) : Type 0 where
  pub each : (p : ℕ) → has_bit types p ≡ true → has_bit left p ≡ false → (j : ℕ) → has_bit out j ≡ true → has_bit (passed_at t p) j ≡ true

pub common_more : (t : Catalogue) (types out left k r : ℕ) → Lowest left k → Rest left r → CommonTo t types out left → CommonTo t types (bit_and out (passed_at t k)) r
common_more t types out left k r w d h =
    record {
      each = λ p i n j b.
          let x = passed_at t k in
          let both = sym (bit-both out x j) ∙ b in
          by (eqb p k)
          (λ q. ap (λ (y : ℕ). has_bit (passed_at t y) j) (eqb-true p k q) ∙ and_right (has_bit out j) (has_bit x j) both)
          (λ q. h.each p i (sym (and-true (has_bit left p)) ∙ ap (λ b. has_bit left p && b) (sym (ap not q)) ∙ sym (d.bits k w p) ∙ n) j (and_left (has_bit out j) (has_bit x j) both));
    }

pub common_all : (t : Catalogue) (types out left : ℕ) → left ≡ 0 → CommonTo t types out left → CommonIs t types out
common_all t types out left e h = record { each = λ p i. h.each p i (ap (λ (x : ℕ). has_bit x p) e ∙ bit-none p) }

-- where all pass a class of the mask on, each does
pub all_pass : (t : Catalogue) (parents mask common : ℕ) → common < 2 ^ 64 → CommonIs t parents common → (bit_and common mask ≡ 0 → ⊥) → PassingIs t parents mask parents
unfolding has_bit
all_pass t parents mask common small c n =
    let x = bit_and common mask in
    let b = some-bit 64 x (omega (arith, and_le_l common mask)) n in
    let there : has_bit x b.0 ≡ true = eq-eqb _ _ b.2 in
    let both = sym (bit-both common mask b.0) ∙ there in
    let meets : (p : ℕ) → has_bit parents p ≡ true → some (bit_and (passed_at t p) mask) ≡ true =
    λ p i.
    let y = bit_and (passed_at t p) mask in
    let in-y : has_bit y b.0 ≡ true =
    bit-both (passed_at t p) mask b.0 ∙ and_both (c.each p i b.0 (and_left (has_bit common b.0) (has_bit mask b.0) both)) (and_right (has_bit common b.0) (has_bit mask b.0) both) in
    ap not (ne_eqb y 0 (λ e. never in-y (ap (λ (z : ℕ). has_bit z b.0) e ∙ bit-none b.0))) in
    record { bits = λ p. by (has_bit parents p) (λ i. i ∙ sym (ap₂ (λ a b. a && b) i (meets p i))) (λ i. i ∙ sym (ap (λ a. a && some (bit_and (passed_at t p) mask)) i)) }

-- ---- the records of a type and a word

pub record_taken : (t : Catalogue) (records e key : ℕ) → extension_key_at t e ≡ key → WithRecord t records e key (more records e)
record_taken t records e key q =
    record { bits = λ i. bit-more records e i ∙ ap (λ b. has_bit records i || b) (sym (rw (eq-eqb (extension_key_at t e) key q) (and-true (eqb e i)))) }

-- those below e with the key
pub record RecordsTo (t : Catalogue) (key out e : ℕ) : Type 0 where
  pub bits : (i : ℕ) → has_bit out i ≡ (ltb i e && eqb (extension_key_at t i) key)

pub records_none : (t : Catalogue) (key : ℕ) → RecordsTo t key 0 0
records_none t key = record { bits = λ i. bit-none i ∙ sym (ap (λ b. b && eqb (extension_key_at t i) key) (le-ltb i 0 (omega arith))) }

module _ (t : Catalogue) (a word : ℕ) (sound : Sound t) where
  abbrev key : ℕ
  key = key_at t a * 256 + word

  pub records_all : (out e : ℕ) → t.extension_count ≤ e → e ≤ t.extension_count → has_bit (t.extended) a ≡ true → RecordsTo t key out e → RecordsAre t a word out
  unfolding added added_for added_in members
  records_all out e l u x h =
      let n = t.extension_count in
      let k : (i : ℕ) → has_bit out i ≡ true → i < n = λ i p. omega (arith, ltb-true i e (and_left (ltb i e) _ (sym (h.bits i) ∙ p))) in
      let m : members out ≡ below (λ i. eqb (extension_key_at t i) key) n =
      below-cut (has_bit out) n 64 (omega (arith, sound.records)) (λ i p q. h.bits i ∙ ap (λ b. b && eqb (extension_key_at t i) key) (le-ltb i e (omega arith)))
      ∙ below-same (has_bit out) (λ i. eqb (extension_key_at t i) key) n (λ i p. h.bits i ∙ ap (λ b. b && eqb (extension_key_at t i) key) (lt-ltb i e (omega arith))) in
      record {
        recorded = record { place = λ i p. omega (arith, k i p, sound.records); few = λ i p. sound.counts i (k i p) };
        added = ap (each (parents_in t)) m ∙ sym (rw x);
      }

pub records-empty : (t : Catalogue) (a word : ℕ) → has_bit t.extended a ≡ false → RecordsAre t a word 0
unfolding added added_for
records-empty t a word x =
    record {
      recorded = record { place = λ i p. never p (bit-none i); few = λ i p. never p (bit-none i) };
      added = ap (each (parents_in t)) (members-none 0 refl) ∙ sym (rw x);
    }

-- ---- what is made for a site

module _ (t : Catalogue) (s : Site) (r : RecordsAre t s.place s.word s.records) where
  pub own-made : (c : ℕ) → c < 64 → made_bits t s.place (record { word = s.word; records = s.records; firsts = more 0 c; classes = more 0 c; inherited = false }) ≡ own_bits t s.place s.word c
  unfolding made_bits own_bits parents_of first_in more
  own-made c h =
      ap₂ (λ (ps : List Name) (cs : List ℕ). making_bits t s.place s.word ps cs)
      (ap₂ (λ (l : List ℕ) (k : List Name). map (name_in t) l ++ ((t.resource ∷ []) ∷ k)) (members-one c h) r.added)
      (classes-one t c h)

  pub inherited-made : (mask f : ℕ) → PassingIs t (parents_at t s.place) mask f
      → made_bits t s.place (record { word = s.word; records = s.records; firsts = f; classes = bit_and (above_at t s.place) mask; inherited = true }) ≡ inherited_bits t s.place s.word mask
  unfolding made_bits inherited_bits parents_of first_in members passing_in
  inherited-made mask f p =
      ap₂ (λ (l : List ℕ) (k : List Name). making_bits t s.place s.word (map (λ p. dotted (name_in t p) s.word) l ++ ((t.resource ∷ []) ∷ k)) (classes_of t (bit_and (above_at t s.place) mask)))
      (below-same (has_bit f) (passes t (parents_at t s.place) mask) 64 (λ q l. p.bits q))
      r.added

-- one own resource after the other
pub own-next : (t : Catalogue) (s : Site) (left k r : ℕ) → Lowest left k → Rest left r → own_items t s left ≡ (own_bits t s.place s.word k ∷ []) ++ own_items t s r
unfolding own_items
own-next t s left k r w d = ap (map (own_bits t s.place s.word)) (members-next left k r w d)

pub own-none : (t : Catalogue) (s : Site) (left : ℕ) → left ≡ 0 → own_items t s left ≡ []
unfolding own_items
own-none t s left e = ap (map (own_bits t s.place s.word)) (members-none left e)

-- the inherited one, or none
module _ (t : Catalogue) (s : Site) (mask : ℕ) where
  pub inherited-not : bit_and (above_at t s.place) mask ≡ 0 → [] ≡ inherited_items t s mask
  unfolding inherited_items
  inherited-not z = rw (eq-eqb (bit_and (above_at t s.place) mask) 0 z)

  pub inherited-so : (bit_and (above_at t s.place) mask ≡ 0 → ⊥) → inherited_bits t s.place s.word mask ∷ [] ≡ inherited_items t s mask
  unfolding inherited_items
  inherited-so n = rw (ne_eqb (bit_and (above_at t s.place) mask) 0 n)

-- the items of a type and a word, part by part
pub word-parts : (t : Catalogue) (a k records : ℕ) →
    own_items t (record { place = a; word = word_at t k; records = records }) (bit_and (own_at t a) (mask_at t k))
    ++ (inherited_items t (record { place = a; word = word_at t k; records = records }) (mask_at t k) ++ (line_bits (key_at t a) (head_at t a) (word_at t k) ∷ []))
    ≡ word_items t a k
unfolding own_items inherited_items word_items
word-parts t a k records = refl

-- ---- the words of a type

-- tests that agree on the members
any-agree : (f g : ℕ → Bool) (l : List ℕ) → ((x : ℕ) → In x l → f x ≡ g x) → any f l ≡ any g l
any-agree f g [] h = refl
any-agree f g (x ∷ l) h = ap₂ (λ a b. a || b) (h x (Memᴰ.head refl)) (any-agree f g l (λ y i. h y (Memᴰ.tail i)))

module _ (t : Catalogue) (words : List ℕ) (a set : ℕ) (sound : Sound t) (ws : WordsAre t words) (most : bit_or (own_at t a) (above_at t a) < 2 ^ 64) (u : United (bit_or (own_at t a) (above_at t a)) words set) where
  abbrev made : ℕ
  made = bit_or (own_at t a) (above_at t a)

  -- a class in a mask
  met : (k : ℕ) → any (has_bit (mask_at t k)) (members made) ≡ some (bit_and made (mask_at t k))
  unfolding has_bit members
  met k =
      let x = bit_and made (mask_at t k) in
      by (eqb x 0)
      (λ e.
      rw e
      (not_so (λ q.
      let c = any_of (has_bit (mask_at t k)) (members made) q in
      let b = below_of (has_bit made) 64 c.1 in
      never (bit-both made (mask_at t k) c.0 ∙ and_both b.1 c.2) (ap (λ (y : ℕ). has_bit y c.0) (eqb-true x 0 e) ∙ bit-none c.0))))
      (λ e.
      let b = some-bit 64 x (omega (arith, most, and_le_l made (mask_at t k))) (eqb-false x 0 e) in
      let h : has_bit x b.0 ≡ true = eq-eqb _ _ b.2 in
      let y : (has_bit made b.0 && has_bit (mask_at t k) b.0) ≡ true = sym (bit-both made (mask_at t k) b.0) ∙ h in
      rw e (any-in (has_bit (mask_at t k)) (in-below (has_bit made) 64 b.1 (and_left (has_bit made b.0) _ y)) (and_right (has_bit made b.0) _ y)))

  -- the words of the set are those with a making
  set-bits : (k : ℕ) → has_bit set k ≡ (ltb k (t.word_count) && makes t a k)
  unfolding members
  set-bits k =
      u.bits k
      ∙ by (ltb k (t.word_count))
      (λ l. rw l (any-agree (λ c. has_bit (get_or words c 0) k) (has_bit (mask_at t k)) (members made) (λ c i. ws.bits c k (below_of (has_bit made) 64 i).0 ∙ rw l)
      ∙ met k))
      (λ l. rw l (any_none (λ c. has_bit (get_or words c 0) k) (members made) (λ c i. ws.bits c k (below_of (has_bit made) 64 i).0 ∙ rw l)))

  pub set-within : (k : ℕ) → has_bit set k ≡ true → k < t.word_count
  set-within k e = ltb-true k (t.word_count) (and_left (ltb k (t.word_count)) (makes t a k) (sym (set-bits k) ∙ e))

  pub type-words : each (word_items t a) (members set) ≡ type_items t a
  unfolding type_items members
  type-words =
      ap (each (word_items t a))
      (below-cut (has_bit set) (t.word_count) 64 sound.words (λ k p q. set-bits k ∙ ap (λ b. b && makes t a k) (le-ltb k (t.word_count) p))
      ∙ below-same (has_bit set) (makes t a) (t.word_count) (λ k p. set-bits k ∙ ap (λ b. b && makes t a k) (lt-ltb k (t.word_count) p)))

pub words-next : (t : Catalogue) (a left k r : ℕ) → Lowest left k → Rest left r → each (word_items t a) (members left) ≡ word_items t a k ++ each (word_items t a) (members r)
words-next t a left k r w d = ap (each (word_items t a)) (members-next left k r w d)

pub words-none : (t : Catalogue) (a left : ℕ) → left ≡ 0 → each (word_items t a) (members left) ≡ []
words-none t a left e = ap (each (word_items t a)) (members-none left e)

-- ---- one type after the other

unfoldable pub types_from : Catalogue → ℕ → List (List Bool)
types_from t a = each (type_items t) (drop a (tabulate (λ a. a) (t.count)))

pub types-all : (t : Catalogue) → types_from t 0 ≡ all_items t
unfolding types_from all_items
types-all t = refl

pub types-next : (t : Catalogue) (a : ℕ) → a < t.count → types_from t a ≡ type_items t a ++ types_from t (a + 1)
unfolding types_from
types-next t a h = from_next (type_items t) (λ a. a) (t.count) a h

pub types-end : (t : Catalogue) (a : ℕ) → t.count ≤ a → types_from t a ≡ []
unfolding types_from
types-end t a h = from_end (type_items t) (λ a. a) (t.count) a h

-- ---- the words of each type

-- noted so far, and left to note
pub record FillsTo (before : List ℕ) (types k : ℕ) (now' : List ℕ) (left : ℕ) : Type 0 where
  pub long : length now' ≡ length before
  pub bits : (c j : ℕ) → c < 64 → (has_bit (get_or now' c 0) j || (eqb k j && has_bit left c)) ≡ (has_bit (get_or before c 0) j || (eqb k j && has_bit types c))

pub fills_more : (before : List ℕ) (types k : ℕ) (w : List ℕ) (left p r : ℕ) → 64 ≤ length before → Lowest left p → Rest left r → FillsTo before types k w left
    → FillsTo before types k (set w p (more (get_or w p 0) k)) r
fills_more before types k w left p r room l d h =
    record {
      long = length-set w p _ ∙ h.long;
      bits = λ c j q.
          by (eqb c p)
          (λ e.
          let z = eqb-true c p e in
          let there : has_bit left c ≡ true = ap (has_bit left) z ∙ l.there in
          let gone : has_bit r c ≡ false = d.bits p l c ∙ ap₂ (λ a b. a && not b) there e in
          let new : get_or (set w p (more (get_or w p 0) k)) c 0 ≡ more (get_or w c 0) k =
          ap (λ (i : ℕ). get_or (set w p (more (get_or w p 0) k)) i 0) z ∙ get_or-set_same w p _ 0 (omega (arith, h.long, l.place)) ∙ ap (λ (i : ℕ). more (get_or w i 0) k) (sym z) in
          ap₂ (λ (x : ℕ) b. has_bit x j || (eqb k j && b)) new gone
          ∙ ap₂ (λ a b. a || b) (bit-more (get_or w c 0) k j) (and-false (eqb k j))
          ∙ or-false _
          ∙ ap (λ b. has_bit (get_or w c 0) j || b) (sym (and-true (eqb k j)) ∙ ap (λ b. eqb k j && b) (sym there))
          ∙ h.bits c j q)
          (λ e.
          let same : has_bit r c ≡ has_bit left c = d.bits p l c ∙ ap (λ b. has_bit left c && not b) e ∙ and-true (has_bit left c) in
          ap₂ (λ (x : ℕ) b. has_bit x j || (eqb k j && b)) (get_or-set_other w p c _ 0 (eqb-false c p e)) same ∙ h.bits c j q);
    }

pub fills_all : (before : List ℕ) (types k : ℕ) (w : List ℕ) (left : ℕ) → left ≡ 0 → FillsTo before types k w left → WordsFill before types k w
fills_all before types k w left e h =
    record {
      long = h.long;
      bits = λ c j q.
          sym (or-false (has_bit (get_or w c 0) j))
          ∙ ap (λ b. has_bit (get_or w c 0) j || b) (sym (ap (λ b. eqb k j && b) (ap (λ (x : ℕ). has_bit x c) e ∙ bit-none c) ∙ and-false (eqb k j)))
          ∙ h.bits c j q;
    }

-- the first k words are noted
pub record WordsTo (t : Catalogue) (words : List ℕ) (k : ℕ) : Type 0 where
  pub bits : (c j : ℕ) → c < 64 → has_bit (get_or words c 0) j ≡ (ltb j k && has_bit (mask_at t j) c)

pub cleared : (n : ℕ) → Cleared (replicate n 0)
cleared n = record { none = λ c j. ap (λ (x : ℕ). has_bit x j) (zero-at n c) ∙ bit-none j }
