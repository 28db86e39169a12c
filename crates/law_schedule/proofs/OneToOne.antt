-- The bits of a legal schedule determine it, and so do its bytes.
use Rattle.std.specs.Prelude.{Bool, false, List, [], ◌∷◌, ◌++◌, ◌≡◌, ℕ, ◌≤◌, ◌<◌, replicate}
use Rattle.std.proofs.Common.{sym, ap, ◌∙◌, arith}
use Rattle.definitions.specs.Bits.{bits_of, pack}
use Rattle.definitions.specs.Records.{Name, Item, synthesized, extension, Schedule}
use Rattle.definitions.specs.Packing.{order_bits, schedule_bits}
use Rattle.definitions.specs.Legal.{Every, Counted, LegalWordIfAny, LegalName}
use Rattle.definitions.specs.LegalSchedule.{most_words, LegalNames, LegalParent, LegalItem, LegalOrder, LegalSchedule}
use Rattle.bits.specs.NumberLaws.{bits_of-pack}
use Rattle.law_reading.specs.Packed.{fill}
use Rattle.law_reading.specs.Parsers.{one_value}
use Rattle.law_schedule.specs.Statements.{PackingIsOneToOne, OrderIsOneToOne, BytesDetermine, OrderBytesDetermine}
use Rattle.law_schedule.specs.Constructs.{WithinFields, names-codes, schedule-codes}

-- ---- what is legal for W words is legal for more

every_more : {A : Type 0} {P Q : A → Type 0} → ((x : A) → P x → Q x) → (l : List A) → Every P l → Every Q l
every_more f [] h = tt
every_more f (x ∷ l) h = (f x h.0, every_more f l h.1)

counted-more : {A : Type 0} {P Q : A → Type 0} {a b : ℕ} → ((x : A) → P x → Q x) → (l : List A) → Counted a b P l → Counted a b Q l
counted-more f l h = record { enough = h.enough; few = h.few; every = every_more f l h.every }

module _ {W X : ℕ} (le : W ≤ X) where
  word_more : (w : ℕ) → w < W → w < X
  word_more w h = omega arith

  second_more : (b : List ℕ) → LegalWordIfAny W b → LegalWordIfAny X b
  second_more [] h = tt
  second_more (w ∷ []) h = word_more w h
  second_more (w ∷ v ∷ l) h = h

  name-more : (n : Name) → LegalName W n → LegalName X n
  name-more [] h = h
  name-more (a ∷ b) h = (word_more a h.0, second_more b h.1)

  item-more : (x : Item) → LegalItem W x → LegalItem X x
  item-more (synthesized n r v ps ms) h = record {
    type = name-more n h.type;
    word = word_more r h.word;
    parents = counted-more {P = LegalParent W} {Q = LegalParent X} (counted-more word_more) ps h.parents;
    marks = h.marks;
  }
  item-more (extension n v t r) h = record { type = name-more n h.type; word = word_more r h.word }

  names_more : (ns : List Name) → LegalNames W ns → LegalNames X ns
  names_more = counted-more name-more

-- both are read with as many words as any sheet has
order-fields : {W : ℕ} {ns : List Name} → LegalOrder W ns → LegalNames most_words ns
order-fields {ns = ns} h = names_more h.width.few ns h.names

pub schedule-fields : {W : ℕ} {s : Schedule} → LegalSchedule W s → WithinFields most_words s
schedule-fields {s = s} h = record {
  names = names_more h.width.few s.order h.names;
  items = counted-more (item-more h.width.few) s.items h.items;
}

-- ---- one to one

pub packing-is-one-to-one : PackingIsOneToOne
packing-is-one-to-one W W' s t rest more h k e = one_value (schedule-codes most_words (omega arith)) s t rest more (schedule-fields h) (schedule-fields k) e

pub order-is-one-to-one : OrderIsOneToOne
order-is-one-to-one W W' ns ms rest more h k e = one_value (names-codes most_words (omega arith)) ns ms rest more (order-fields h) (order-fields k) e

-- bytes are the bits and a fill behind them
filled : (bs cs : List Bool) → pack bs ≡ pack cs → bs ++ replicate (fill bs) false ≡ cs ++ replicate (fill cs) false
filled bs cs e = sym (bits_of-pack bs) ∙ ap bits_of e ∙ bits_of-pack cs

pub bytes-determine : BytesDetermine
bytes-determine W W' s t h k e = (packing-is-one-to-one W W' s t _ _ h k (filled (schedule_bits s) (schedule_bits t) e)).0

pub order-bytes-determine : OrderBytesDetermine
order-bytes-determine W W' ns ms h k e = (order-is-one-to-one W W' ns ms _ _ h k (filled (order_bits ns) (order_bits ms) e)).0
