-- The compact form is filled type by type.
use Rattle.std.specs.Prelude.{List, [], ◌≡◌, ℕ, ◌+◌, ◌<◌, eqb, length, get_or, set}
use Rattle.std.proofs.Common.{refl, ap, ◌∙◌, arith, eqb-true, get_or-set_same, get_or-set_other}
use Rattle.std.proofs.lemmas.Bool.{eqb-false}
use Rattle.lists.specs.Tests.{by}
use Rattle.order_form.specs.Reading.{no_name, no_parent}
use Rattle.order_form.specs.declared.Parent.{Parent}
use Rattle.order_form.specs.declared.Parents.{Parents}
use Rattle.fields.specs.Keys.{name_with}
use Rattle.order_table.specs.Keys.{parent_of}
use Rattle.sheet_draft.specs.Draft.{key_at, parent_count_at, parent_at}
use Rattle.sheet_draft.specs.declared.Draft.{Draft}
use Rattle.catalogue.specs.Layout.{looked}
use Rattle.catalogue.specs.declared.Catalogue.{Catalogue}
use Rattle.order_compact.specs.Compact.{PlaceIs, TypePut}

module _ (t : Catalogue) (d : Draft) (row a n : ℕ) where
  -- the name of the type, and how many parents it lists
  pub type_start : (many : ℕ) (old new : Parents)
      → new.names ≡ set old.names a (name_with (key_at d row)) → new.counts ≡ set old.counts a many
      → new.count ≡ old.count → new.self_word ≡ old.self_word → new.parents ≡ old.parents
      → many ≡ parent_count_at d row → a < length old.names → a < length old.counts → TypePut t d row a n 0 old new
  type_start many old new e q r s p f h j =
      record {
        kept = record {
          count = r;
          self_word = s;
          names = λ b l. rw e (get_or-set_other old.names a b _ no_name (λ z. omega arith));
          counts = λ b l. rw q (get_or-set_other old.counts a b many 0 (λ z. omega arith));
          parents = λ b i l. ap (λ (x : List (List Parent)). get_or (get_or x b []) i no_parent) p;
        };
        type = record {
          name = rw e (get_or-set_same old.names a _ no_name h);
          many = rw q (get_or-set_same old.counts a many 0 j ∙ f);
        };
        parents = λ j l. absurd (omega arith);
      }

  -- one parent more
  pub type_more : (k key place : ℕ) (old now new : Parents)
      → new ≡ record now { parents = set now.parents a (set (get_or now.parents a []) k (parent_of key place)) }
      → key ≡ parent_at d row k → PlaceIs (looked t key) n place → a < length now.parents → k < length (get_or now.parents a [])
      → TypePut t d row a n k old now → TypePut t d row a n (k + 1) old new
  type_more k key place old now new e f q h i p =
      let eight = get_or now.parents a [] in
      let more = set eight k (parent_of key place) in
      let here : get_or (set now.parents a more) a [] ≡ more = get_or-set_same now.parents a more [] h in
      rw e
      record {
        kept = record {
          count = p.kept.count;
          self_word = p.kept.self_word;
          names = p.kept.names;
          counts = p.kept.counts;
          parents = λ b j l. ap (λ (x : List Parent). get_or x j no_parent) (get_or-set_other now.parents a b more [] (λ z. omega arith)) ∙ p.kept.parents b j l;
        };
        type = record { name = p.type.name; many = p.type.many };
        parents = λ b l.
            rw here
            (by (eqb b k)
            (λ z.
            let y = eqb-true b k z in
            rw (y, get_or-set_same eight k (parent_of key place) no_parent i, ← f)
            record { name = refl; place = q })
            (λ z.
            let y = eqb-false b k z in
            rw (get_or-set_other eight k b (parent_of key place) no_parent y) (p.parents b (omega (arith, y)))));
      }
