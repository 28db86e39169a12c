-- Laws of what is made, as the code counts and adds it.
use Rattle.std.proofs.Math.Bool.{Bool, and-true, and-false, and_assoc}
use Rattle.std.specs.Prelude.{true, false, ◌&&◌, not, ◌≡◌, refl, eqb, ltb, length, drop}
use mathlib.Core.List.Permᴰ
use mathlib.Core.List.{List, [], ◌∷◌, ◌++◌, map, append_assoc, append-nil}
use Rattle.std.proofs.Math.Path.{sym, ap, ap₂}
use Rattle.std.proofs.Common.{◌∙◌, eq-eqb, ne_eqb, eqb-true, length-append}
use Prim.Native.Nat.{ℕ, ◌+◌, ◌*◌, ◌-◌, ◌/◌, ◌%◌, ◌≤◌, ◌<◌}
use native.Mathlib.Omega.{arith}
use Rattle.std.specs.Int.Bits.{bit_and, bit_xor}
use Rattle.std.proofs.lemmas.List.{length-map}
use Rattle.lists.specs.Lists.{all, each}
use Rattle.lists.specs.Tests.{by, never, and_left, all_same}
use Rattle.lists.specs.Sorting.{perm_in}
use Rattle.lists.specs.Appending.{each_append, each_map, each-each, all_append}
use Rattle.lists.specs.Tabulating.{length-tabulate}
use Rattle.definitions.specs.Bits.{odd, to_bits}
use Rattle.definitions.specs.Records.{Name}
use Rattle.definitions.specs.Packing.{name_bits, parent_bits}
use Rattle.definitions.specs.Comparisons.{dotted}
use Rattle.definitions.specs.LegalSchedule.{most_marks}
use Rattle.bits.specs.NumberLaws.{length-to_bits, to_bits-split}
use Rattle.order_form.specs.Lists.{below-same, below_none, below_one}
use Rattle.rows.specs.Rows.{has_bit}
use Rattle.rows.specs.RowLaws.{bit-without, bit-none}
use Rattle.catalogue.specs.Layout.{key_at, head_at, packed_at, marks_at, mark_width, mark_count, extension_count_at, extension_parent_at, second_at}
use Rattle.catalogue.specs.Catalogue.{name_of_key, virtual_head, parents_in}
use Rattle.catalogue.specs.ByDom.{by_dom}
use Rattle.catalogue.specs.DomLaws.{by_dom-perm, by_dom-one, by_dom-empty}
use Rattle.bitsets.specs.Bitsets.{members, Lowest, Rest}
use Rattle.bitsets.specs.BitLaws.{bit-both, members-of, members-next, members-none}
use Rattle.item_pen.specs.declared.field.Field.{Field}
use Rattle.item_pen.specs.Pen.{field_bits, Holds, flushed, TakesIn}
use Rattle.item_fields.specs.Fields.{head_bits}
use Rattle.item_heads.specs.declared.packed.Packed.{Packed}
use Rattle.catalogue.specs.declared.Catalogue.{Catalogue}
use Rattle.item_making.specs.declared.Making.{Making}
use Rattle.item_making.specs.declared.Gathered.{Gathered}
use Rattle.item_making.specs.Making.{each_of, each_by, total, ones, others, classes_of, name_in, first_in, Recorded, added, parents_of, first_bits, record_bits, others_bits, parents_bits, marks_bits, marks_in, all_virtual, all_marks_bits, GathersAll, making_bits, made_bits, behind_bits, Alone, tail_bits}
use Rattle.item_making.specs.Walks.{members_most, each_next, each_none, total_next, total_none, total-append, total-perm, total-most, total-each, from_next, from_end}

-- ---- records

pub recorded_rest : (t : Catalogue) (left k r : ℕ) → Lowest left k → Rest left r → Recorded t left → Recorded t r
recorded_rest t left k r w d h =
    let sub : (e : ℕ) → has_bit r e ≡ true → has_bit left e ≡ true = λ e p. and_left (has_bit left e) _ (sym (d.bits k w e) ∙ p) in
    record { place = λ e p. h.place e (sub e p); few = λ e p. h.few e (sub e p) }

pub added_next : (t : Catalogue) (left k r : ℕ) → Lowest left k → Rest left r → length (added t left) ≡ extension_count_at t k + length (added t r)
unfolding added parents_in
added_next t left k r w d =
    ap (λ (l : List ℕ). length (each (parents_in t) l)) (members-next left k r w d)
    ∙ length-append (parents_in t k) (each (parents_in t) (members r))
    ∙ ap (λ (n : ℕ). n + length (each (parents_in t) (members r))) (length-tabulate _ (extension_count_at t k))

pub added_none : (t : Catalogue) (left : ℕ) → left ≡ 0 → length (added t left) ≡ 0
unfolding added
added_none t left e = ap (λ (l : List ℕ). length (each (parents_in t) l)) (members-none left e)

pub added_most : (t : Catalogue) (records : ℕ) → Recorded t records → length (added t records) ≤ 512
unfolding added parents_in
added_most t records h =
    let m =
    total-most (λ e. length (parents_in t e)) 8 (members records)
    (λ e i. let n : length (parents_in t e) ≡ extension_count_at t e = length-tabulate _ (extension_count_at t e) in omega (arith, n, h.few e (members-of records i).1)) in
    omega (arith, m, total-each (parents_in t) (members records), members_most records)

-- ---- marks and flags

pub odd-and : (a b : ℕ) → odd (bit_and a b) ≡ (odd a && odd b)
unfolding odd has_bit
odd-and a b = bit-both a b 0

pub marks_most : (t : Catalogue) (set : ℕ) → marks_in t (members set) ≤ most_marks
unfolding marks_in
marks_most t set =
    let m = total-most (mark_count t) 7 (members set) (λ e i. (packed_at t e).few) in
    omega (arith, m, members_most set)

-- what the lowest place of a set has, and the rest
pub marks_next : (t : Catalogue) (left k r : ℕ) → Lowest left k → Rest left r → marks_in t (members left) ≡ mark_count t k + marks_in t (members r)
unfolding marks_in
marks_next t left k r w d = total_next (mark_count t) left k r w d

pub marks_none : (t : Catalogue) (left : ℕ) → left ≡ 0 → marks_in t (members left) ≡ 0
unfolding marks_in
marks_none t left e = total_none (mark_count t) left e

pub flag_next : (t : Catalogue) (flag left k r : ℕ) → Lowest left k → Rest left r
    → (odd (bit_and flag (head_at t k / 32)) && all_virtual t (members r)) ≡ (odd flag && all_virtual t (members left))
unfolding all_virtual virtual_head odd
flag_next t flag left k r w d =
    let v : ℕ → Bool = λ c. odd (head_at t c / 32) in
    ap (λ b. b && all v (members r)) (odd-and flag (head_at t k / 32))
    ∙ and_assoc (odd flag) (v k) (all v (members r))
    ∙ ap (λ (l : List ℕ). odd flag && all v l) (sym (members-next left k r w d))

pub flag_none : (t : Catalogue) (flag left : ℕ) → left ≡ 0 → (odd flag && all_virtual t (members left)) ≡ odd flag
unfolding all_virtual
flag_none t flag left e = ap (λ (l : List ℕ). odd flag && all (λ c. virtual_head (head_at t c)) l) (members-none left e) ∙ and-true (odd flag)

-- ---- fields

pub marks_long : (t : Catalogue) (c : ℕ) → length (marks_bits t c) ≡ mark_width t c
unfolding marks_bits
marks_long t c = length-to_bits (mark_width t c) (marks_at t c)

-- the first bits of marks and the last 32
pub marks-parts : (w v : ℕ) → 32 ≤ w → to_bits (w - 32) (v / 4294967296) ++ to_bits 32 v ≡ to_bits w v
marks-parts w v h = let e : w - 32 + 32 ≡ w = omega arith in sym (to_bits-split (w - 32) 32 v) ∙ ap (λ (n : ℕ). to_bits n v) e

module _ (t : Catalogue) (c : ℕ) (p : Packed) (e : p ≡ packed_at t c) where
  pub marks-are : to_bits p.width p.bits ≡ marks_bits t c
  unfolding marks_bits
  marks-are = ap (λ (q : Packed). to_bits q.width q.bits) e

  pub marks-parted : 32 ≤ p.width → to_bits (p.width - 32) (p.bits / 4294967296) ++ to_bits 32 p.bits ≡ marks_bits t c
  marks-parted h = marks-parts p.width p.bits h ∙ marks-are

-- ---- the parents of a record, one after the other

-- those from the j-th on
unfoldable pub record_from : Catalogue → ℕ → ℕ → List Bool
record_from t e j = each parent_bits (drop j (parents_in t e))

pub record-all : (t : Catalogue) (e : ℕ) → record_bits t e ≡ record_from t e 0
unfolding record_bits record_from
record-all t e = refl

pub record-next : (t : Catalogue) (e j : ℕ) → j < extension_count_at t e → record_from t e j ≡ parent_bits (name_of_key (extension_parent_at t e j)) ++ record_from t e (j + 1)
unfolding record_from parents_in
record-next t e j h = from_next parent_bits (λ i. name_of_key (extension_parent_at t e i)) (extension_count_at t e) j h

pub record-end : (t : Catalogue) (e j : ℕ) → extension_count_at t e ≤ j → record_from t e j ≡ []
unfolding record_from parents_in
record-end t e j h = from_end parent_bits (λ i. name_of_key (extension_parent_at t e i)) (extension_count_at t e) j h

-- ---- parts

pub parents-parts : (t : Catalogue) (m : Making) →
    each_of (first_bits t m) m.firsts ++ (parent_bits (t.resource ∷ []) ++ each_of (record_bits t) m.records) ≡ parents_bits t m
unfolding parents_bits parents_of each_of first_bits record_bits added
parents-parts t m =
    let ps = map (first_in t m) (members m.firsts) in
    let qs = each (parents_in t) (members m.records) in
    sym (
    each_append parent_bits ps ((t.resource ∷ []) ∷ qs)
    ∙ ap₂ (λ (a b : List Bool). a ++ (parent_bits (t.resource ∷ []) ++ b)) (each_map parent_bits (first_in t m) (members m.firsts)) (each-each (parents_in t) parent_bits (members m.records))
    )

pub parents_count : (t : Catalogue) (m : Making) → length (parents_of t m) ≡ length (members m.firsts) + 1 + length (added t m.records)
unfolding parents_of
parents_count t m =
    let ps = map (first_in t m) (members m.firsts) in
    omega (arith, length-append ps ((t.resource ∷ []) ∷ added t m.records), length-map (members m.firsts) (first_in t m))

pub resource-bits : (t : Catalogue) → to_bits 2 1 ++ to_bits 8 t.resource ≡ parent_bits (t.resource ∷ [])
unfolding parent_bits
resource-bits t = ap (λ (l : List Bool). to_bits 2 1 ++ l) (sym (append-nil (to_bits 8 t.resource)))

pub mark-bits-both : (t : Catalogue) (classes marks : ℕ)
    → to_bits 9 marks ++ (each_by t (marks_bits t) (ones t classes) ++ each_by t (marks_bits t) (others t classes)) ≡ all_marks_bits t marks classes
unfolding all_marks_bits each_by classes_of
mark-bits-both t classes marks = ap (λ (l : List Bool). to_bits 9 marks ++ l) (sym (each_append (marks_bits t) (by_dom t (ones t classes)) (by_dom t (others t classes))))

-- by dom or by place the marks are as many, the bits as many, and the same classes virtual
marks_by : (t : Catalogue) (x : ℕ) → marks_in t (by_dom t x) ≡ marks_in t (members x)
unfolding marks_in
marks_by t x = sym (total-perm (mark_count t) (by_dom-perm t x))

virtual_by : (t : Catalogue) (x : ℕ) → all_virtual t (by_dom t x) ≡ all_virtual t (members x)
unfolding all_virtual
virtual_by t x = all_same (λ c. virtual_head (head_at t c)) (by_dom t x) (members x) (λ c. (perm_in (Permᴰ.symm (by_dom-perm t x)), perm_in (by_dom-perm t x)))

long-by : (t : Catalogue) (g : ℕ → List Bool) (x : ℕ) → length (each_by t g x) ≡ length (each_of g x)
unfolding each_by each_of
long-by t g x = total-each g (by_dom t x) ∙ sym (total-perm (λ c. length (g c)) (by_dom-perm t x)) ∙ sym (total-each g (members x))

pub marks_both : (t : Catalogue) (classes : ℕ) → marks_in t (classes_of t classes) ≡ marks_in t (members (ones t classes)) + marks_in t (members (others t classes))
unfolding marks_in classes_of
marks_both t classes =
    total-append (mark_count t) (by_dom t (ones t classes)) (by_dom t (others t classes))
    ∙ ap₂ (λ (a b : ℕ). a + b) (marks_by t (ones t classes)) (marks_by t (others t classes))

pub flag_both : (t : Catalogue) (a classes : ℕ)
    → (virtual_head (head_at t a) && all_virtual t (classes_of t classes))
    ≡ ((odd (head_at t a / 32) && all_virtual t (members (ones t classes))) && all_virtual t (members (others t classes)))
unfolding all_virtual virtual_head odd classes_of
flag_both t a classes =
    let v : ℕ → Bool = λ c. odd (head_at t c / 32) in
    ap (λ b. v a && b)
    (all_append v (by_dom t (ones t classes)) (by_dom t (others t classes)) ∙ ap₂ (λ b c. b && c) (virtual_by t (ones t classes)) (virtual_by t (others t classes)))
    ∙ sym (and_assoc (v a) (all v (members (ones t classes))) (all v (members (others t classes))))

pub made-parts : (t : Catalogue) (a : ℕ) (m : Making) (count : ℕ) (g : Gathered) → count ≡ length (parents_of t m) → GathersAll t a m.classes g →
    head_bits (key_at t a) m.word g.flag count ++ (parents_bits t m ++ all_marks_bits t g.marks m.classes) ≡ made_bits t a m
unfolding head_bits made_bits making_bits parents_bits all_marks_bits name_in
made-parts t a m count g e h =
    let N = name_bits (name_of_key (key_at t a)) in
    let W = to_bits 8 m.word in
    let v = odd g.flag in
    let C = to_bits 5 count in
    let P = each parent_bits (parents_of t m) in
    let M = to_bits 9 g.marks ++ each (marks_bits t) (classes_of t m.classes) in
    ap (λ (l : List Bool). false ∷ l)
    (append_assoc N (W ++ (v ∷ C)) (P ++ M)
    ∙ ap (λ (l : List Bool). N ++ l) (append_assoc W (v ∷ C) (P ++ M) ∙ ap (λ (l : List Bool). W ++ (v ∷ l)) (sym (append_assoc C P M))))
    ∙ ap (λ (y : ℕ). false ∷ N ++ (W ++ (v ∷ (to_bits 5 y ++ P) ++ M))) e
    ∙ ap₂ (λ (b : Bool) (n : ℕ). false ∷ N ++ (W ++ (b ∷ (to_bits 5 (length (parents_of t m)) ++ P) ++ (to_bits 9 n ++ each (marks_bits t) (classes_of t m.classes))))) h.flag h.marks

pub resource-parts : (t : Catalogue) (a : ℕ) (m : Making) (count n : ℕ) (g : Gathered) (f : Field) → count ≡ length (parents_of t m) → GathersAll t a m.classes g →
    Holds f n (head_bits (key_at t a) m.word g.flag count) → (field_bits f ++ each_of (first_bits t m) m.firsts) ++ behind_bits t m g.marks ≡ made_bits t a m
unfolding behind_bits others_bits
resource-parts t a m count n g f e h w =
    let H = head_bits (key_at t a) m.word g.flag count in
    let F = each_of (first_bits t m) m.firsts in
    let O = parent_bits (t.resource ∷ []) ++ each_of (record_bits t) m.records in
    let M = all_marks_bits t g.marks m.classes in
    ap (λ (l : List Bool). (l ++ F) ++ (O ++ M)) w.bits
    ∙ append_assoc H F (O ++ M)
    ∙ ap (λ (l : List Bool). H ++ l) (sym (append_assoc F O M) ∙ ap (λ (l : List Bool). l ++ M) (parents-parts t m))
    ∙ made-parts t a m count g e h

-- ---- fields that are held back

-- what is written first stands first
pub held-some : (held f : Field) (xs : List Bool) → (ys : List Bool) × (field_bits held ++ xs ≡ flushed held f ++ ys)
unfolding flushed
held-some held f xs = by (ltb 56 (held.width + f.width)) (λ e. (xs, rw e)) (λ e. (field_bits held ++ xs, rw e))

pub held_next : (g : ℕ → List Bool) (held f n : Field) (left k r : ℕ) → Lowest left k → Rest left r → TakesIn held f n → field_bits f ≡ g k
    → field_bits held ++ each_of g left ≡ flushed held f ++ (field_bits n ++ each_of g r)
held_next g held f n left k r w d t e =
    let E = each_of g r in
    ap (λ (l : List Bool). field_bits held ++ l) (each_next g left k r w d ∙ ap (λ (l : List Bool). l ++ E) (sym e))
    ∙ sym (append_assoc (field_bits held) (field_bits f) E)
    ∙ ap (λ (l : List Bool). l ++ E) (sym t.bits)
    ∙ append_assoc (flushed held f) (field_bits n) E

-- ---- how many bits

-- the bits made of each member, summed
pub each_long : (g : ℕ → List Bool) (left : ℕ) → length (each_of g left) ≡ total (λ x. length (g x)) (members left)
unfolding each_of
each_long g left = total-each g (members left)

-- what the lowest place of a set has, and the rest
pub long_next : (g : ℕ → List Bool) (left k r : ℕ) → Lowest left k → Rest left r → length (each_of g left) ≡ length (g k) + length (each_of g r)
long_next g left k r l d = ap length (each_next g left k r l d) ∙ length-append (g k) (each_of g r)

pub long_none : (g : ℕ → List Bool) (left : ℕ) → left ≡ 0 → length (each_of g left) ≡ 0
long_none g left e = ap length (each_none g left e)

-- no more than the most that one has, each time
each-most : (g : ℕ → List Bool) (most set : ℕ) → ((x : ℕ) → length (g x) ≤ most) → length (each_of g set) ≤ most * length (members set)
each-most g most set h = rw (each_long g set) (total-most (λ x. length (g x)) most (members set) (λ x i. h x))

words_long : (n : Name) → length (each (to_bits 8) n) ≡ 8 * length n
words_long [] = refl
words_long (w ∷ n) = omega (arith, length-append (to_bits 8 w) (each (to_bits 8) n), length-to_bits 8 w, words_long n)

parent-long : (n : Name) → length (parent_bits n) ≡ 2 + 8 * length n
unfolding parent_bits
parent-long n = omega (arith, length-append (to_bits 2 (length n)) (each (to_bits 8) n), length-to_bits 2 (length n), words_long n)

key-long : (k : ℕ) → length (name_of_key k) ≤ 2
unfolding name_of_key
key-long k = by (eqb (k % 256) 0) (λ e. rw e (omega arith)) (λ e. rw e (omega arith))

first-long : (t : Catalogue) (m : Making) (p : ℕ) → length (first_bits t m p) ≤ 26
unfolding first_bits first_in name_in
first-long t m p =
    let n = name_of_key (key_at t p) in
    by m.inherited
    (λ e. rw e (omega (arith, parent-long (dotted n m.word), length-append n (m.word ∷ []), key-long (key_at t p))))
    (λ e. rw e (omega (arith, parent-long n, key-long (key_at t p))))

pub firsts_most : (t : Catalogue) (m : Making) (set : ℕ) → length (each_of (first_bits t m) set) ≤ 1664
firsts_most t m set = omega (arith, each-most (first_bits t m) 26 set (first-long t m), members_most set)

pub mark_bits_next : (t : Catalogue) (left k r : ℕ) → Lowest left k → Rest left r → length (each_of (marks_bits t) left) ≡ mark_width t k + length (each_of (marks_bits t) r)
mark_bits_next t left k r l d = omega (arith, long_next (marks_bits t) left k r l d, marks_long t k)

pub mark_bits_most : (t : Catalogue) (set : ℕ) → length (each_of (marks_bits t) set) ≤ 4032
mark_bits_most t set = omega (arith, each-most (marks_bits t) 63 set (λ c. omega (arith, marks_long t c, (packed_at t c).few, (packed_at t c).narrow)), members_most set)

-- the parts of a making whose parents no extension adds to
pub made_long : (t : Catalogue) (a : ℕ) (m : Making) → m.records ≡ 0
    → length (made_bits t a m)
    ≡ 34 + length (name_bits (name_of_key (key_at t a))) + length (each_of (first_bits t m) m.firsts)
    + (length (each_of (marks_bits t) (ones t m.classes)) + length (each_of (marks_bits t) (others t m.classes)))
unfolding made_bits making_bits all_marks_bits parents_bits name_in
made_long t a m z =
    let N = name_bits (name_in t a) in
    let W = to_bits 8 m.word in
    let P = each parent_bits (parents_of t m) in
    let F = each_of (first_bits t m) m.firsts in
    let M = each (marks_bits t) (classes_of t m.classes) in
    let R = parent_bits (t.resource ∷ []) in
    let E = each_of (record_bits t) m.records in
    let p : length P ≡ length F + 10 =
    sym (ap length (parents-parts t m)) ∙ omega (arith, length-append F (R ++ E), length-append R E, parent-long (t.resource ∷ []), long_none (record_bits t) m.records z) in
    let v = virtual_head (head_at t a) && all_virtual t (classes_of t m.classes) in
    let C = to_bits 5 (length (parents_of t m)) in
    let K = to_bits 9 (marks_in t (classes_of t m.classes)) in
    let A = each_by t (marks_bits t) (ones t m.classes) in
    let B = each_by t (marks_bits t) (others t m.classes) in
    let q : length (all_marks_bits t 0 m.classes) ≡ 9 + (length A + length B) =
    sym (ap length (mark-bits-both t m.classes 0)) ∙ omega (arith, length-append (to_bits 9 0) (A ++ B), length-to_bits 9 0, length-append A B) in
    omega (
      arith,
      p,
      q,
      long-by t (marks_bits t) (ones t m.classes),
      long-by t (marks_bits t) (others t m.classes),
      length-append N (W ++ (v ∷ (C ++ P) ++ (K ++ M))),
      length-append W (v ∷ (C ++ P) ++ (K ++ M)),
      length-append (C ++ P) (K ++ M),
      length-append C P,
      length-append K M,
      length-append (to_bits 9 0) M,
      length-to_bits 8 m.word,
      length-to_bits 5 (length (parents_of t m)),
      length-to_bits 9 (marks_in t (classes_of t m.classes)),
      length-to_bits 9 0,
    )

-- ---- a making of one class

-- a set of one class is in order, whatever its dom
pub classes-alone : (t : Catalogue) (x c : ℕ) → c < 64 → ((j : ℕ) → has_bit x j ≡ eqb c j) → classes_of t x ≡ c ∷ []
unfolding classes_of members
classes-alone t x c h is =
    let S = second_at t 0 in
    let in-it : (j : ℕ) → has_bit (bit_and x S) j ≡ (eqb c j && has_bit S j) = λ j. bit-both x S j ∙ ap (λ b. b && has_bit S j) (is j) in
    let out : (j : ℕ) → has_bit (bit_xor x (bit_and x S)) j ≡ (eqb c j && not (has_bit S j)) = λ j. bit-without x S j ∙ ap (λ b. b && not (has_bit S j)) (is j) in
    let at : (b : Bool) (j : ℕ) → has_bit S c ≡ b → (eqb c j && has_bit S j) ≡ (eqb c j && b) =
    λ b j e. by (eqb c j) (λ q. rw q (ap (has_bit S) (sym (eqb-true c j q)) ∙ e)) (λ q. rw q) in
    by (has_bit S c)
    (λ e.
    ap₂ (λ (a b : List ℕ). a ++ b)
    (by_dom-one t (bit_and x S) c (below-same (has_bit (bit_and x S)) (λ j. eqb c j) 64 (λ j l. in-it j ∙ at true j e ∙ and-true (eqb c j)) ∙ below_one 64 c h))
    (by_dom-empty t (bit_xor x (bit_and x S)) (below_none (has_bit (bit_xor x (bit_and x S))) 64 (λ j l. out j ∙ by (eqb c j) (λ q. rw q (ap (λ k. not (has_bit S k)) (sym (eqb-true c j q)) ∙ ap not e)) (λ q. rw q)))))
    (λ e.
    ap₂ (λ (a b : List ℕ). a ++ b)
    (by_dom-empty t (bit_and x S) (below_none (has_bit (bit_and x S)) 64 (λ j l. in-it j ∙ at false j e ∙ and-false (eqb c j))))
    (by_dom-one t (bit_xor x (bit_and x S)) c (below-same (has_bit (bit_xor x (bit_and x S))) (λ j. eqb c j) 64
    (λ j l. out j ∙ by (eqb c j) (λ q. rw q (ap (λ k. not (has_bit S k)) (sym (eqb-true c j q)) ∙ ap not e)) (λ q. rw q)) ∙ below_one 64 c h)))

-- nothing is left behind the lowest of it
pub alone-is : (x c : ℕ) → Lowest x c → Rest x 0 → (j : ℕ) → has_bit x j ≡ eqb c j
alone-is x c w z j =
    by (eqb c j)
    (λ q. ap (has_bit x) (sym (eqb-true c j q)) ∙ w.there ∙ sym q)
    (λ q.
    sym (and-true (has_bit x j))
    ∙ ap (λ b. has_bit x j && b) (sym (ap not (ne_eqb j c (λ e. never (eq-eqb c j (sym e)) q))))
    ∙ sym (z.bits c w j)
    ∙ bit-none j
    ∙ sym q)

module _ (t : Catalogue) (m : Making) (l : Alone m) (c : ℕ) (w : Lowest m.classes c) where
  class-is : classes_of t m.classes ≡ c ∷ []
  class-is = classes-alone t m.classes c w.place (alone-is m.classes c w l.one)

  -- what stands behind its first parents
  pub alone-behind : (marks : ℕ) → marks ≡ marks_in t (classes_of t m.classes) → tail_bits t c ≡ behind_bits t m marks
  unfolding tail_bits behind_bits others_bits all_marks_bits marks_in
  alone-behind marks e =
      let R = parent_bits (t.resource ∷ []) in
      let C = to_bits 9 (mark_count t c) in
      let none : each_of (record_bits t) m.records ≡ [] = each_none (record_bits t) m.records l.records in
      let count : mark_count t c ≡ marks = omega arith ∙ ap (total (mark_count t)) (sym class-is) ∙ sym e in
      append_assoc R C (marks_bits t c)
      ∙ ap₂ (λ (x y : List Bool). x ++ (C ++ y)) (sym (append-nil R) ∙ ap (λ (x : List Bool). R ++ x) (sym none)) (sym (append-nil (marks_bits t c)) ∙ ap (each (marks_bits t)) (sym class-is))
      ∙ ap (λ (x : ℕ). (R ++ each_of (record_bits t) m.records) ++ (to_bits 9 x ++ each (marks_bits t) (classes_of t m.classes))) count

-- what stands behind the first parents, as it is added
module _ (t : Catalogue) (c : ℕ) (p : Packed) (e : p ≡ packed_at t c) where
  abbrev start : List Bool
  start = parent_bits (t.resource ∷ []) ++ to_bits 9 (mark_count t c)

  pub tail-short : start ++ to_bits p.width p.bits ≡ tail_bits t c
  unfolding tail_bits
  tail-short = ap (λ (l : List Bool). start ++ l) (marks-are t c p e)

  pub tail-long : 32 ≤ p.width → (start ++ to_bits (p.width - 32) (p.bits / 4294967296)) ++ to_bits 32 p.bits ≡ tail_bits t c
  unfolding tail_bits
  tail-long h = append_assoc start (to_bits (p.width - 32) (p.bits / 4294967296)) (to_bits 32 p.bits) ∙ ap (λ (l : List Bool). start ++ l) (marks-parted t c p e h)
