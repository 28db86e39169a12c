-- Laws of the decoder: the lists that were read are those of a sheet, and the tests behind them.
use Rattle.std.specs.Prelude.{Bool, true, false, List, ◌≡◌, refl, ℕ, ◌≤◌, ◌<◌, length, drop, Ok, Err}
use Rattle.std.proofs.Common.{sym, ap, ◌∙◌, subst, arith}
use Rattle.lists.specs.Lists.{In}
use Rattle.lists.specs.Sorting.{ascends-sorted}
use Rattle.lists.specs.Tabulating.{tabulate-in}
use Rattle.definitions.specs.Bits.{bits_of}
use Rattle.definitions.specs.Parse.{Parsed, done, refused}
use Rattle.definitions.specs.Reading.{sheet}
use Rattle.definitions.specs.Checks.{resource_bytes, self_bytes, bad_fill, bad_words, something_twice}
use Rattle.definitions.specs.Map.{number_of}
use Rattle.definitions.specs.Records.{Sheet}
use Rattle.definitions.specs.Legal.{LegalType}
use Rattle.definitions.specs.Answer as rules
use Rattle.definitions.specs.Answer.{sheet_fault}
use Rattle.fields.specs.declared.Fault.{Fault}
use Rattle.fields.specs.Fields.{fault_of}
use Rattle.law_decoding.specs.Decoding.{turned_back, decoded}
use Rattle.law_orders.specs.Comparisons.{bytes-strict}
use Rattle.law_orders.specs.Reach.{NoHyphen}
use Rattle.law_orders.specs.Self.{words-ascend}
use Rattle.law_orders.proofs.Spelling.{every_in, not_null}
use Rattle.law_lines.specs.Within.{Within}
use Rattle.law_lines.specs.Reading.{read-is-within}
use Rattle.law_decoding.specs.ReadLaws.{limits, few_words}
use Rattle.law_decoding.specs.DecodingLaws.{was_read, not-read, seven, five, six}
use Rattle.sheet_words.specs.Words.{Telling, telling_of}
use Rattle.catalogue.specs.declared.Catalogue.{Catalogue}
use Rattle.sheet_draft.specs.declared.Draft.{Draft}
use Rattle.sheet_draft.specs.declared.entry.Entry.{Entry}
use Rattle.sheet_keys.specs.Keys.{name_of_key}
use Rattle.sheet_reach.specs.Reach.{Reaches, LegalKey}
use Rattle.sheet_reach.specs.declared.Reach.{Reach}
use Rattle.sheet_draft.specs.Draft.{key_at, type_in, types_in}
use Rattle.sheet_draft.specs.Drafted.{Entered}
use Rattle.sheet_order.specs.Entries.{KeysReach, Orders}
use Rattle.sheet_extensions.specs.Records.{records_in}
use Rattle.sheet_decode.specs.Lists.{Seen, seen, of_lists, Kept}
use Rattle.answers.specs.declared.Refusal.{Refusal}
use Rattle.answers.specs.Answers.{alone, refusal_of}
use Rattle.sheet_decode.specs.Decodes.{Whole, Back}
use Rattle.sheet_decode.specs.declared.Lists.{Lists}

-- ---- the lists

-- the lists are those of a sheet
pub record Listed (bytes : List ℕ) (d : Draft) (t : Catalogue) (l : Lists) : Type 0 where
  pub s : Sheet
  pub read : sheet (bits_of bytes) ≡ done s (drop l.at (bits_of bytes))
  pub width : l.read.width ≡ length s.words
  pub bad : l.bad ≡ bad_words s.words
  pub resource : l.read.resource ≡ number_of resource_bytes s.words
  pub own : l.read.own ≡ number_of self_bytes s.words
  pub types : types_in l.read.width (bits_of bytes) d l.read.count ≡ s.types
  pub extensions : records_in t l.read.extensions ≡ s.extensions

module _ (bytes : List ℕ) (d : Draft) (t : Catalogue) where
  abbrev here : Lists → Seen
  here l = record {
    telling = record { count = l.read.width; bad = l.bad; resource = l.read.resource; own = l.read.own };
    types = types_in l.read.width (bits_of bytes) d l.read.count;
    extensions = records_in t l.read.extensions;
  }

  pub listed : (l : Lists) → of_lists (bits_of bytes) d t (Ok l) ≡ seen (sheet (bits_of bytes)) → Listed bytes d t l
  listed l e = go (sheet (bits_of bytes)) refl e
    where
      go : (x : Parsed Sheet) → sheet (bits_of bytes) ≡ x → done (here l) (drop l.at (bits_of bytes)) ≡ seen x → Listed bytes d t l
      go (done s rest) q f =
          let w : here l ≡ record { telling = telling_of s.words; types = s.types; extensions = s.extensions } = cc in
          let r : drop l.at (bits_of bytes) ≡ rest = cc in
          let v : record { count = l.read.width; bad = l.bad; resource = l.read.resource; own = l.read.own } ≡ telling_of s.words = ap (λ (z : Seen). z.telling) w in
          record {
            s = s;
            read = q ∙ ap (done s) (sym r);
            width = ap (λ (z : Telling). z.count) v;
            bad = ap (λ (z : Telling). z.bad) v;
            resource = ap (λ (z : Telling). z.resource) v;
            own = ap (λ (z : Telling). z.own) v;
            types = ap (λ (z : Seen). z.types) w;
            extensions = ap (λ (z : Seen). z.extensions) w;
          }
      go (refused r) q f = let z : ◌≡◌ {A = ℕ} 0 1 = cc in absurd (omega arith)

  pub not_listed : (n : Fault) → of_lists (bits_of bytes) d t (Err n) ≡ seen (sheet (bits_of bytes)) → decoded bytes ≡ turned_back (sheet_fault (fault_of n))
  not_listed n e = go (sheet (bits_of bytes)) refl e
    where
      go : (x : Parsed Sheet) → sheet (bits_of bytes) ≡ x → refused (fault_of n) ≡ seen x → decoded bytes ≡ turned_back (sheet_fault (fault_of n))
      go (done s rest) q f = let z : ◌≡◌ {A = ℕ} 0 1 = cc in absurd (omega arith)
      go (refused r) q f = let w : fault_of n ≡ r = cc in not-read bytes r q ∙ ap (λ f. turned_back (sheet_fault f)) (sym w)

-- ---- answers

pub back_as : (bytes : List ℕ) (r : Refusal) (n : ℕ) → refusal_of r ≡ alone n → decoded bytes ≡ turned_back n → Back bytes r
back_as bytes r n h e =
    let k : (refusal_of r).number ≡ n = ap (λ (a : rules.Answer). a.number) h in
    record { number = e ∙ ap turned_back (sym k); alone = h ∙ ap alone (sym k) }

module _ (bytes : List ℕ) (d : Draft) (t : Catalogue) (l : Lists) (h : Listed bytes d t l) where
  abbrev rest : List Bool
  rest = drop l.at (bits_of bytes)

  pub fill-back : bad_fill rest ≡ true → decoded bytes ≡ turned_back 7
  fill-back a = was_read bytes h.s rest h.read ∙ seven h.s rest a

  module _ (f : bad_fill rest ≡ false) where
    pub words_back : l.bad ≡ true → decoded bytes ≡ turned_back 5
    words_back b = was_read bytes h.s rest h.read ∙ five h.s rest f (sym h.bad ∙ b)

    module _ (g : l.bad ≡ false) where
      pub twice-back : something_twice h.s ≡ true → decoded bytes ≡ turned_back 6
      twice-back c = was_read bytes h.s rest h.read ∙ six h.s rest f (sym h.bad ∙ g) c

      pub passes : something_twice h.s ≡ false → length bytes ≤ 40960 → (entries : List Entry) → Entered h.s.words d entries l.read.count → Kept (bits_of bytes) d l.read → (l.read.hyphens ≡ false → NoHyphen h.s.words) → Whole bytes d entries t l.read
      passes c short entries en k plain = record {
        s = h.s;
        holds = record { rest = rest; short = short; read = h.read; fill = f; words = sym h.bad ∙ g; once = c };
        drafted = record {
          few = k.count;
          types = rw (← h.width) h.types;
        };
        notes = rw (← h.width) k.notes;
        entered = en;
        extensions = record { few = k.extensions; records = h.extensions };
        width = h.width;
        resource = h.resource;
        self = h.own;
        plain = plain;
      }

-- ---- the order by name

-- what it rests on, where words are not refused
module _ (bytes : List ℕ) (d : Draft) (t : Catalogue) (l : Lists) (h : Listed bytes d t l) (few : l.read.count ≤ 64) where
  key-legal : (i : ℕ) → i < l.read.count → LegalKey h.s.words (key_at d i)
  unfolding types_in type_in
  key-legal i b =
      let e : LegalType (length h.s.words) (type_in l.read.width (bits_of bytes) d i) =
      every_in (LegalType (length h.s.words)) (limits (bits_of bytes) h.s rest h.read).types.every
      (subst (In (type_in l.read.width (bits_of bytes) d i)) h.types (tabulate-in (type_in l.read.width (bits_of bytes) d) l.read.count i b)) in
      e.name
    where
      rest : List Bool
      rest = drop l.at (bits_of bytes)

  pub keys-reach : KeysReach d l.read.count
  unfolding name_of_key
  keys-reach i b = omega (arith, (key-legal i b).0, few_words (bits_of bytes) h.s (drop l.at (bits_of bytes)) h.read)

  pub orders : l.bad ≡ false → (r : Reach) → Reaches h.s.words r → Orders h.s.words r d l.read.count
  orders g r reaches = record {
    words = record {
      ascend = ascends-sorted bytes-strict h.s.words (words-ascend h.s.words (sym h.bad ∙ g));
      filled = λ w i. not_null w (within.word w i).filled;
      least = λ w i. (within.word w i).least;
      no_dot = λ w i. (within.word w i).no_dot;
    };
    reaches = reaches;
    keys = key-legal;
  }
    where
      within : Within h.s
      within = read-is-within (bits_of bytes) (drop l.at (bits_of bytes)) h.s h.read
