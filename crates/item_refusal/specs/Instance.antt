-- Two sheets with their catalogues: what the answer asks is no empty demand, and the test by numbers decides both.
use Rattle.std.specs.Prelude.{Bool, true, false, List, [], ◌∷◌, map, ◌≡◌, refl, ℕ, zero, suc, ◌+◌, ◌^◌, ◌<◌, ◌≤◌, eqb, replicate}
use Rattle.std.proofs.Common.{sym, ◌∙◌, subst, eqb-true, arith}
use Rattle.std.proofs.lemmas.Bool.{eqb-false}
use Rattle.lists.specs.Lists.{list_before}
use Rattle.lists.specs.Tests.{by, never}
use Rattle.lists.specs.Members.{map-sorted}
use Rattle.lists.specs.Lexicographic.{list-strict}
use Rattle.lists.specs.Sorting.{ascends-sorted}
use Rattle.lists.specs.Tabulating.{tabulate}
use Rattle.definitions.specs.Records.{Name, associate, Annotation, makelist_mark, Mark, Variant, domain, resource, TypeInfo, Sheet}
use Rattle.definitions.specs.Comparisons.{same_name, dotted}
use Rattle.definitions.specs.Map.{LineType}
use Rattle.definitions.specs.Making.{is_resource_variant}
use Rattle.definitions.specs.Checks.{resource_bytes, self_bytes}
use Rattle.definitions.specs.Bits.{bits_of}
use Rattle.definitions.specs.Parse.{done}
use Rattle.definitions.specs.Reading.{sheet}
use Rattle.definitions.specs.Cases.{hex, run}
use Rattle.law_lines.specs.Reading.{read-is-within}
use Rattle.law_lines.specs.Statements.{Readable, line_map, is_refused, any_refused}
use Rattle.law_lines.specs.Within.{Within}
use Rattle.rows.specs.Rows.{has_bit}
use Rattle.bitsets.specs.BitLaws.{bit_past}
use Rattle.law_classes.specs.Sets.{Set, some, one_word, word_of, masked, named, own_set, given_set, above_set, passed_set, type_at, SetIs}
use Rattle.law_classes.specs.Numbers.{Fits}
use Rattle.law_classes.specs.Refusal.{lost_class, own_twice, unmet, has_child}
use Rattle.law_classes.proofs.Instance.{crossed, crossed-readable, crossed-within, crossed-tested}
use Rattle.catalogue.specs.Layout.{no_word, parents_at, own_at, above_at, passed_at, word_at, mask_at, owner_at, first_at, second_at}
use Rattle.catalogue.specs.Catalogue.{name_of_key, first_is, second_is, is_resource_head, virtual_head, trait_head, added_in, Entry, Listed, Worded, Extended, SetsOf, Owned, Catalogued}
use Rattle.catalogue.specs.declared.Catalogue.{Catalogue}
use Rattle.item_heads.specs.Heads.{no_marks}
use Rattle.item_heads.specs.declared.packed.Packed.{Packed}
use Rattle.item_refusal.specs.Tests.{Decides}

-- ---- columns

-- a column, filled with zeros
abbrev fill : ℕ → List ℕ → List ℕ
fill zero l = []
fill (suc n) [] = 0 ∷ fill n []
fill (suc n) (x ∷ l) = x ∷ fill n l

-- one makelist mark
abbrev lists_mark : Packed
lists_mark = record { bits = 0; width = 1; count = 1; few = omega arith; narrow = omega arith; less = omega arith }

-- what holds at each place below n
abbrev Each : (ℕ → Type 0) → ℕ → Type 0
Each P zero = Unit {0}
Each P (suc n) = Each P n × P n

each_at : (P : ℕ → Type 0) (n : ℕ) → Each P n → (a : ℕ) → a < n → P a
each_at P zero h a l = absurd (omega arith)
each_at P (suc n) h a l =
    by (eqb a n)
    (λ e. subst P (sym (eqb-true a n e)) h.1)
    (λ e. each_at P n h.0 a (omega (arith, eqb-false a n e)))

-- ---- a map refused for two identical makings (`crossed`): places p 0, p.f 1, q.f 2, t 3

abbrev pub crossed_table : Catalogue
crossed_table = record {
  keys = fill 64 (256 ∷ 257 ∷ 513 ∷ 1280 ∷ []);
  heads = fill 64 (0 ∷ 64 ∷ 64 ∷ 1 ∷ []);
  marks = no_marks ∷ lists_mark ∷ lists_mark ∷ replicate 61 no_marks;
  parents = fill 64 (0 ∷ 0 ∷ 0 ∷ 1 ∷ []);
  own = fill 64 (0 ∷ 0 ∷ 0 ∷ 2 ∷ []);
  above = fill 64 (0 ∷ 0 ∷ 0 ∷ 4 ∷ []);
  passed = fill 64 (4 ∷ 0 ∷ 0 ∷ 6 ∷ []);
  owners = fill 64 (64 ∷ 0 ∷ 64 ∷ 64 ∷ []);
  words = record { word = 0; types = 6 } ∷ record { word = 1; types = 1 } ∷ record { word = 5; types = 8 } ∷ replicate 61 no_word;
  extensions = replicate 32 (record { key = 0; count = 0; parents = replicate 8 0 });
  firsts = fill 256 (0 ∷ 3 ∷ 4 ∷ 0 ∷ 0 ∷ 8 ∷ []);
  seconds = fill 256 (9 ∷ 6 ∷ []);
  count = 4;
  word_count = 3;
  extension_count = 0;
  extended = 0;
  resource = 3;
  resources = 6;
  childed = 1;
  width = 6;
  hyphens = false;
}

-- the bits of a set, and a number without others
crossed-set : (row : ℕ) (S : Set) → Each (λ a. has_bit row a ≡ S (type_at (line_map crossed) a)) 4 → SetIs (line_map crossed) row S
unfolding run
crossed-set row S h = each_at (λ a. has_bit row a ≡ S (type_at (line_map crossed) a)) 4 h

crossed-fits : (row : ℕ) → row < 2 ^ 4 → Fits (line_map crossed) row
unfolding run
crossed-fits row h = record { most = omega arith; within = λ a l. bit_past 4 row a h l }

crossed-entry : (a : ℕ) → a < 4 → Entry crossed crossed_table a
unfolding run name_of_key is_resource_head virtual_head trait_head
crossed-entry =
    each_at (Entry crossed crossed_table) 4 (
      (
        (
          (
            tt,
            record { key = omega arith; name = refl; head = omega arith; is_resource = refl; is_virtual = refl; is_trait = refl; mark_count = refl; mark_bits = refl },
          ),
          record { key = omega arith; name = refl; head = omega arith; is_resource = refl; is_virtual = refl; is_trait = refl; mark_count = refl; mark_bits = refl },
        ),
        record { key = omega arith; name = refl; head = omega arith; is_resource = refl; is_virtual = refl; is_trait = refl; mark_count = refl; mark_bits = refl },
      ),
      record { key = omega arith; name = refl; head = omega arith; is_resource = refl; is_virtual = refl; is_trait = refl; mark_count = refl; mark_bits = refl },
    )

crossed-listed : Listed crossed crossed_table
unfolding run has_bit first_is second_is
crossed-listed = record {
  few = omega arith;
  count = refl;
  entry = crossed-entry;
  width = refl;
  resource_word = refl;
  resources = crossed-set _ (λ (D : LineType). is_resource_variant D.variant) ((((tt, refl), refl), refl), refl);
  resources_fit = crossed-fits _ (omega arith);
  first = each_at (λ w. SetIs (line_map crossed) (first_at crossed_table w) (λ (D : LineType). first_is w D.name)) 6 (
    (
      (
        (
          (
            (
              tt,
              crossed-set (first_at crossed_table 0) (λ (D : LineType). first_is 0 D.name) ((((tt, refl), refl), refl), refl),
            ),
            crossed-set (first_at crossed_table 1) (λ (D : LineType). first_is 1 D.name) ((((tt, refl), refl), refl), refl),
          ),
          crossed-set (first_at crossed_table 2) (λ (D : LineType). first_is 2 D.name) ((((tt, refl), refl), refl), refl),
        ),
        crossed-set (first_at crossed_table 3) (λ (D : LineType). first_is 3 D.name) ((((tt, refl), refl), refl), refl),
      ),
      crossed-set (first_at crossed_table 4) (λ (D : LineType). first_is 4 D.name) ((((tt, refl), refl), refl), refl),
    ),
    crossed-set (first_at crossed_table 5) (λ (D : LineType). first_is 5 D.name) ((((tt, refl), refl), refl), refl),
  );
  first_fits = each_at (λ w. Fits (line_map crossed) (first_at crossed_table w)) 6 ((((((tt, crossed-fits _ (omega arith)), crossed-fits _ (omega arith)), crossed-fits _ (omega arith)), crossed-fits _ (omega arith)), crossed-fits _ (omega arith)), crossed-fits _ (omega arith));
  none = crossed-set _ (λ (D : LineType). one_word D.name) ((((tt, refl), refl), refl), refl);
  none_fits = crossed-fits _ (omega arith);
  second = each_at (λ w. SetIs (line_map crossed) (second_at crossed_table (1 + w)) (λ (D : LineType). second_is w D.name)) 6 (
    (
      (
        (
          (
            (
              tt,
              crossed-set (second_at crossed_table 1) (λ (D : LineType). second_is 0 D.name) ((((tt, refl), refl), refl), refl),
            ),
            crossed-set (second_at crossed_table 2) (λ (D : LineType). second_is 1 D.name) ((((tt, refl), refl), refl), refl),
          ),
          crossed-set (second_at crossed_table 3) (λ (D : LineType). second_is 2 D.name) ((((tt, refl), refl), refl), refl),
        ),
        crossed-set (second_at crossed_table 4) (λ (D : LineType). second_is 3 D.name) ((((tt, refl), refl), refl), refl),
      ),
      crossed-set (second_at crossed_table 5) (λ (D : LineType). second_is 4 D.name) ((((tt, refl), refl), refl), refl),
    ),
    crossed-set (second_at crossed_table 6) (λ (D : LineType). second_is 5 D.name) ((((tt, refl), refl), refl), refl),
  );
  second_fits = each_at (λ w. Fits (line_map crossed) (second_at crossed_table (1 + w))) 6 ((((((tt, crossed-fits _ (omega arith)), crossed-fits _ (omega arith)), crossed-fits _ (omega arith)), crossed-fits _ (omega arith)), crossed-fits _ (omega arith)), crossed-fits _ (omega arith));
  numbered = λ e.
      map-sorted (λ (a b : Name). list_before a b ≡ true) (λ (D : LineType). D.name) (line_map crossed).types
      (ascends-sorted list-strict (map (λ (D : LineType). D.name) (line_map crossed).types) refl);
}

crossed-worded : Worded crossed crossed_table
unfolding run has_bit tabulate
crossed-worded = record {
  few = omega arith;
  words = refl;
  mask_fits = each_at (λ k. Fits (line_map crossed) (mask_at crossed_table k)) 3 (((tt, crossed-fits _ (omega arith)), crossed-fits _ (omega arith)), crossed-fits _ (omega arith));
  mask = each_at (λ k. SetIs (line_map crossed) (mask_at crossed_table k) (masked (word_at crossed_table k))) 3 (
    (
      (
        tt,
        crossed-set (mask_at crossed_table 0) (masked (word_at crossed_table 0)) ((((tt, refl), refl), refl), refl),
      ),
      crossed-set (mask_at crossed_table 1) (masked (word_at crossed_table 1)) ((((tt, refl), refl), refl), refl),
    ),
    crossed-set (mask_at crossed_table 2) (masked (word_at crossed_table 2)) ((((tt, refl), refl), refl), refl),
  );
}

crossed-extended : Extended crossed crossed_table
unfolding run added_in
crossed-extended = record {
  few = omega arith;
  counts = λ e h. absurd (omega arith);
  keys = λ e h. absurd (omega arith);
  parents = λ e j h k. absurd (omega arith);
  added = λ a r h k. refl;
  extended = λ a r h k e. refl;
}

-- whether the owner of d is a, by the table and by the names
abbrev CrossedOwner : ℕ → ℕ → Type 0
CrossedOwner d a = eqb (owner_at crossed_table d) a ≡ same_name (type_at (line_map crossed) d).name (dotted (type_at (line_map crossed) a).name (word_of (type_at (line_map crossed) d).name))

crossed-owned : Owned crossed crossed_table
unfolding run has_bit
crossed-owned = record {
  childed = crossed-set _ (λ (P : LineType). some (line_map crossed) (λ (T : LineType). T.inherits P.name)) ((((tt, refl), refl), refl), refl);
  owner = λ d a h k.
      each_at (λ d. CrossedOwner d a) 4 (
        (
          (
            (
              tt,
              each_at (CrossedOwner 0) 4 ((((tt, refl), refl), refl), refl) a k,
            ),
            each_at (CrossedOwner 1) 4 ((((tt, refl), refl), refl), refl) a k,
          ),
          each_at (CrossedOwner 2) 4 ((((tt, refl), refl), refl), refl) a k,
        ),
        each_at (CrossedOwner 3) 4 ((((tt, refl), refl), refl), refl) a k,
      ) d h;
  no_owner = each_at (λ d. 4 ≤ owner_at crossed_table d → 64 ≤ owner_at crossed_table d) 4 ((((tt, λ h. omega arith), λ h. omega arith), λ h. omega arith), λ h. omega arith);
}

crossed-sets : (a : ℕ) → a < 4 → SetsOf crossed crossed_table a
unfolding run has_bit named own_set given_set above_set passed_set
crossed-sets =
    each_at (SetsOf crossed crossed_table) 4 (
      (
        (
          (
            tt,
            record {
              parents = crossed-set (parents_at crossed_table 0) (λ (P : LineType). (type_at (line_map crossed) 0).inherits P.name) ((((tt, refl), refl), refl), refl);
              parents_fit = crossed-fits _ (omega arith);
              own = crossed-set (own_at crossed_table 0) (own_set (type_at (line_map crossed) 0)) ((((tt, refl), refl), refl), refl);
              above = crossed-set (above_at crossed_table 0) (above_set (line_map crossed) (type_at (line_map crossed) 0)) ((((tt, refl), refl), refl), refl);
              passed = crossed-set (passed_at crossed_table 0) (passed_set (line_map crossed) (type_at (line_map crossed) 0)) ((((tt, refl), refl), refl), refl);
            },
          ),
          record {
            parents = crossed-set (parents_at crossed_table 1) (λ (P : LineType). (type_at (line_map crossed) 1).inherits P.name) ((((tt, refl), refl), refl), refl);
            parents_fit = crossed-fits _ (omega arith);
            own = crossed-set (own_at crossed_table 1) (own_set (type_at (line_map crossed) 1)) ((((tt, refl), refl), refl), refl);
            above = crossed-set (above_at crossed_table 1) (above_set (line_map crossed) (type_at (line_map crossed) 1)) ((((tt, refl), refl), refl), refl);
            passed = crossed-set (passed_at crossed_table 1) (passed_set (line_map crossed) (type_at (line_map crossed) 1)) ((((tt, refl), refl), refl), refl);
          },
        ),
        record {
          parents = crossed-set (parents_at crossed_table 2) (λ (P : LineType). (type_at (line_map crossed) 2).inherits P.name) ((((tt, refl), refl), refl), refl);
          parents_fit = crossed-fits _ (omega arith);
          own = crossed-set (own_at crossed_table 2) (own_set (type_at (line_map crossed) 2)) ((((tt, refl), refl), refl), refl);
          above = crossed-set (above_at crossed_table 2) (above_set (line_map crossed) (type_at (line_map crossed) 2)) ((((tt, refl), refl), refl), refl);
          passed = crossed-set (passed_at crossed_table 2) (passed_set (line_map crossed) (type_at (line_map crossed) 2)) ((((tt, refl), refl), refl), refl);
        },
      ),
      record {
        parents = crossed-set (parents_at crossed_table 3) (λ (P : LineType). (type_at (line_map crossed) 3).inherits P.name) ((((tt, refl), refl), refl), refl);
        parents_fit = crossed-fits _ (omega arith);
        own = crossed-set (own_at crossed_table 3) (own_set (type_at (line_map crossed) 3)) ((((tt, refl), refl), refl), refl);
        above = crossed-set (above_at crossed_table 3) (above_set (line_map crossed) (type_at (line_map crossed) 3)) ((((tt, refl), refl), refl), refl);
        passed = crossed-set (passed_at crossed_table 3) (passed_set (line_map crossed) (type_at (line_map crossed) 3)) ((((tt, refl), refl), refl), refl);
      },
    )

pub crossed-catalogued : Catalogued crossed crossed_table
unfolding run
crossed-catalogued = record { listed = crossed-listed; worded = crossed-worded; extended = crossed-extended; owned = crossed-owned; sets = crossed-sets }

-- no class is lost and none stands twice, so the answer is that of the sets: a type is refused
crossed-decided : (r : Bool) → Decides crossed_table false r → r ≡ true
unfolding run lost_class own_twice unmet has_child
crossed-decided r d = d.right crossed crossed-readable crossed-within crossed-catalogued refl ∙ crossed-tested

-- ---- an accepted map: `base` associates `file`, a virtual resource under `resource` with a mark.
-- Places: base 0, file 1, resource 2

abbrev type_of : ℕ → Variant → Bool → List Name → List Annotation → List Mark → TypeInfo
type_of w v virtual ps as' ms = record { name = w ∷ []; variant = v; virtual = virtual; trait = false; parents = ps; annotations = as'; marks = ms }

abbrev worked : Sheet
worked = record {
  words = (98 ∷ 97 ∷ 115 ∷ 101 ∷ []) ∷ (102 ∷ 105 ∷ 108 ∷ 101 ∷ []) ∷ resource_bytes ∷ self_bytes ∷ [];
  types =
      type_of 0 domain false [] (associate (record { word = 1; dom = [] } ∷ []) ∷ []) []
      ∷ type_of 1 resource true ((2 ∷ []) ∷ []) [] (makelist_mark ∷ [])
      ∷ type_of 2 resource false [] [] []
      ∷ [];
  extensions = [];
}

worked-readable : Readable worked
unfolding run
worked-readable = record { words = refl; once = refl }

-- the bytes of the worked example
abbrev worked_bytes : List ℕ
worked_bytes = hex 38 0x10423130b9b29199a5b1950e4cae6deeae4c6ca473656c660600001220200261020101100000

worked-read : sheet (bits_of worked_bytes) ≡ done worked (replicate 1 false)
unfolding run
worked-read = refl

worked-within : Within worked
worked-within = read-is-within (bits_of worked_bytes) (replicate 1 false) worked worked-read

abbrev worked_table : Catalogue
worked_table = record {
  keys = fill 64 (0 ∷ 256 ∷ 512 ∷ []);
  heads = fill 64 (0 ∷ 97 ∷ 64 ∷ []);
  marks = no_marks ∷ lists_mark ∷ replicate 62 no_marks;
  parents = fill 64 (0 ∷ 4 ∷ 0 ∷ []);
  own = fill 64 (2 ∷ 0 ∷ 0 ∷ []);
  above = fill 64 [];
  passed = fill 64 (2 ∷ 0 ∷ 0 ∷ []);
  owners = fill 64 (64 ∷ 64 ∷ 64 ∷ []);
  words = record { word = 0; types = 1 } ∷ record { word = 1; types = 2 } ∷ record { word = 2; types = 4 } ∷ replicate 61 no_word;
  extensions = replicate 32 (record { key = 0; count = 0; parents = replicate 8 0 });
  firsts = fill 256 (1 ∷ 2 ∷ 4 ∷ 0 ∷ []);
  seconds = fill 256 (7 ∷ []);
  count = 3;
  word_count = 3;
  extension_count = 0;
  extended = 0;
  resource = 2;
  resources = 6;
  childed = 4;
  width = 4;
  hyphens = true;
}

-- the bits of a set, and a number without others
worked-set : (row : ℕ) (S : Set) → Each (λ a. has_bit row a ≡ S (type_at (line_map worked) a)) 3 → SetIs (line_map worked) row S
unfolding run
worked-set row S h = each_at (λ a. has_bit row a ≡ S (type_at (line_map worked) a)) 3 h

worked-fits : (row : ℕ) → row < 2 ^ 3 → Fits (line_map worked) row
unfolding run
worked-fits row h = record { most = omega arith; within = λ a l. bit_past 3 row a h l }

worked-entry : (a : ℕ) → a < 3 → Entry worked worked_table a
unfolding run name_of_key is_resource_head virtual_head trait_head
worked-entry =
    each_at (Entry worked worked_table) 3 (
      (
        (
          tt,
          record { key = omega arith; name = refl; head = omega arith; is_resource = refl; is_virtual = refl; is_trait = refl; mark_count = refl; mark_bits = refl },
        ),
        record { key = omega arith; name = refl; head = omega arith; is_resource = refl; is_virtual = refl; is_trait = refl; mark_count = refl; mark_bits = refl },
      ),
      record { key = omega arith; name = refl; head = omega arith; is_resource = refl; is_virtual = refl; is_trait = refl; mark_count = refl; mark_bits = refl },
    )

worked-listed : Listed worked worked_table
unfolding run has_bit first_is second_is
worked-listed = record {
  few = omega arith;
  count = refl;
  entry = worked-entry;
  width = refl;
  resource_word = refl;
  resources = worked-set _ (λ (D : LineType). is_resource_variant D.variant) (((tt, refl), refl), refl);
  resources_fit = worked-fits _ (omega arith);
  first = each_at (λ w. SetIs (line_map worked) (first_at worked_table w) (λ (D : LineType). first_is w D.name)) 4 (
    (
      (
        (
          tt,
          worked-set (first_at worked_table 0) (λ (D : LineType). first_is 0 D.name) (((tt, refl), refl), refl),
        ),
        worked-set (first_at worked_table 1) (λ (D : LineType). first_is 1 D.name) (((tt, refl), refl), refl),
      ),
      worked-set (first_at worked_table 2) (λ (D : LineType). first_is 2 D.name) (((tt, refl), refl), refl),
    ),
    worked-set (first_at worked_table 3) (λ (D : LineType). first_is 3 D.name) (((tt, refl), refl), refl),
  );
  first_fits = each_at (λ w. Fits (line_map worked) (first_at worked_table w)) 4 ((((tt, worked-fits _ (omega arith)), worked-fits _ (omega arith)), worked-fits _ (omega arith)), worked-fits _ (omega arith));
  none = worked-set _ (λ (D : LineType). one_word D.name) (((tt, refl), refl), refl);
  none_fits = worked-fits _ (omega arith);
  second = each_at (λ w. SetIs (line_map worked) (second_at worked_table (1 + w)) (λ (D : LineType). second_is w D.name)) 4 (
    (
      (
        (
          tt,
          worked-set (second_at worked_table 1) (λ (D : LineType). second_is 0 D.name) (((tt, refl), refl), refl),
        ),
        worked-set (second_at worked_table 2) (λ (D : LineType). second_is 1 D.name) (((tt, refl), refl), refl),
      ),
      worked-set (second_at worked_table 3) (λ (D : LineType). second_is 2 D.name) (((tt, refl), refl), refl),
    ),
    worked-set (second_at worked_table 4) (λ (D : LineType). second_is 3 D.name) (((tt, refl), refl), refl),
  );
  second_fits = each_at (λ w. Fits (line_map worked) (second_at worked_table (1 + w))) 4 ((((tt, worked-fits _ (omega arith)), worked-fits _ (omega arith)), worked-fits _ (omega arith)), worked-fits _ (omega arith));
  numbered = λ e. never refl e;
}

worked-worded : Worded worked worked_table
unfolding run has_bit tabulate
worked-worded = record {
  few = omega arith;
  words = refl;
  mask_fits = each_at (λ k. Fits (line_map worked) (mask_at worked_table k)) 3 (((tt, worked-fits _ (omega arith)), worked-fits _ (omega arith)), worked-fits _ (omega arith));
  mask = each_at (λ k. SetIs (line_map worked) (mask_at worked_table k) (masked (word_at worked_table k))) 3 (
    (
      (
        tt,
        worked-set (mask_at worked_table 0) (masked (word_at worked_table 0)) (((tt, refl), refl), refl),
      ),
      worked-set (mask_at worked_table 1) (masked (word_at worked_table 1)) (((tt, refl), refl), refl),
    ),
    worked-set (mask_at worked_table 2) (masked (word_at worked_table 2)) (((tt, refl), refl), refl),
  );
}

worked-extended : Extended worked worked_table
unfolding run added_in
worked-extended = record {
  few = omega arith;
  counts = λ e h. absurd (omega arith);
  keys = λ e h. absurd (omega arith);
  parents = λ e j h k. absurd (omega arith);
  added = λ a r h k. refl;
  extended = λ a r h k e. refl;
}

-- whether the owner of d is a, by the table and by the names
abbrev WorkedOwner : ℕ → ℕ → Type 0
WorkedOwner d a = eqb (owner_at worked_table d) a ≡ same_name (type_at (line_map worked) d).name (dotted (type_at (line_map worked) a).name (word_of (type_at (line_map worked) d).name))

worked-owned : Owned worked worked_table
unfolding run has_bit
worked-owned = record {
  childed = worked-set _ (λ (P : LineType). some (line_map worked) (λ (T : LineType). T.inherits P.name)) (((tt, refl), refl), refl);
  owner = λ d a h k.
      each_at (λ d. WorkedOwner d a) 3 (
        (
          (
            tt,
            each_at (WorkedOwner 0) 3 (((tt, refl), refl), refl) a k,
          ),
          each_at (WorkedOwner 1) 3 (((tt, refl), refl), refl) a k,
        ),
        each_at (WorkedOwner 2) 3 (((tt, refl), refl), refl) a k,
      ) d h;
  no_owner = each_at (λ d. 3 ≤ owner_at worked_table d → 64 ≤ owner_at worked_table d) 3 (((tt, λ h. omega arith), λ h. omega arith), λ h. omega arith);
}

worked-sets : (a : ℕ) → a < 3 → SetsOf worked worked_table a
unfolding run has_bit named own_set given_set above_set passed_set
worked-sets =
    each_at (SetsOf worked worked_table) 3 (
      (
        (
          tt,
          record {
            parents = worked-set (parents_at worked_table 0) (λ (P : LineType). (type_at (line_map worked) 0).inherits P.name) (((tt, refl), refl), refl);
            parents_fit = worked-fits _ (omega arith);
            own = worked-set (own_at worked_table 0) (own_set (type_at (line_map worked) 0)) (((tt, refl), refl), refl);
            above = worked-set (above_at worked_table 0) (above_set (line_map worked) (type_at (line_map worked) 0)) (((tt, refl), refl), refl);
            passed = worked-set (passed_at worked_table 0) (passed_set (line_map worked) (type_at (line_map worked) 0)) (((tt, refl), refl), refl);
          },
        ),
        record {
          parents = worked-set (parents_at worked_table 1) (λ (P : LineType). (type_at (line_map worked) 1).inherits P.name) (((tt, refl), refl), refl);
          parents_fit = worked-fits _ (omega arith);
          own = worked-set (own_at worked_table 1) (own_set (type_at (line_map worked) 1)) (((tt, refl), refl), refl);
          above = worked-set (above_at worked_table 1) (above_set (line_map worked) (type_at (line_map worked) 1)) (((tt, refl), refl), refl);
          passed = worked-set (passed_at worked_table 1) (passed_set (line_map worked) (type_at (line_map worked) 1)) (((tt, refl), refl), refl);
        },
      ),
      record {
        parents = worked-set (parents_at worked_table 2) (λ (P : LineType). (type_at (line_map worked) 2).inherits P.name) (((tt, refl), refl), refl);
        parents_fit = worked-fits _ (omega arith);
        own = worked-set (own_at worked_table 2) (own_set (type_at (line_map worked) 2)) (((tt, refl), refl), refl);
        above = worked-set (above_at worked_table 2) (above_set (line_map worked) (type_at (line_map worked) 2)) (((tt, refl), refl), refl);
        passed = worked-set (passed_at worked_table 2) (passed_set (line_map worked) (type_at (line_map worked) 2)) (((tt, refl), refl), refl);
      },
    )

pub worked-catalogued : Catalogued worked worked_table
unfolding run
worked-catalogued = record { listed = worked-listed; worded = worked-worded; extended = worked-extended; owned = worked-owned; sets = worked-sets }

-- and here none is
worked-decided : (r : Bool) → Decides worked_table false r → r ≡ false
unfolding run any_refused is_refused lost_class own_twice unmet has_child
worked-decided r d = d.right worked worked-readable worked-within worked-catalogued refl ∙ refl
