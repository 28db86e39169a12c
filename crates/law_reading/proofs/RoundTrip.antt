-- Nothing legal is refused, and nothing illegal is read.
use Rattle.std.specs.Prelude.{Bool, true, false, List, [], ◌∷◌, ◌++◌, ◌≡◌, refl, ℕ, zero, suc, ◌*◌, ◌≤◌, ◌<◌, length, get_or, take, drop, replicate}
use Rattle.std.proofs.Common.{sym, ap, ◌∙◌, subst, arith, le-leb, length-append, length-take, length-drop, take-append-drop}
use Rattle.std.proofs.lemmas.List.{length-replicate}
use Rattle.lists.specs.Lists.{any}
use Rattle.lists.specs.Tests.{or_left}
use Rattle.definitions.specs.Records.{Sheet}
use Rattle.definitions.specs.Checks.{bad_fill}
use Rattle.definitions.specs.Bits.{bits_of, pack}
use Rattle.definitions.specs.Parse.{past, done, refused}
use Rattle.definitions.specs.Reading.{sheet}
use Rattle.definitions.specs.Legal.{Every, Legal}
use Rattle.definitions.specs.Encoding.{sheet_bits, encode}
use Rattle.definitions.specs.Relisted.{Holds}
use Rattle.law_reading.specs.Statements.{NothingLegalIsRefused, NothingIllegalIsRead, HeldExactly, OneMap, ReadExactly, FourStays}
use Rattle.bits.specs.NumberLaws.{length-bits_of, bits_of-append, bits_of-pack}
use Rattle.law_reading.specs.Packed.{length-pack, pack-bytes, fill, packed-only}
use Rattle.law_reading.specs.Parsers.{done-value, done-only, done-stays, refused-stays, cut_short}
use Rattle.law_reading.specs.Constructs.{sheet-codes}
use Rattle.law_reading.specs.Sizes.{sheet-size}
use Rattle.law_reading.specs.Rules.{none-set, fill-exactly, words-exactly, twice-exactly}

pub read-exactly : ReadExactly
read-exactly bits s rest = (
  λ e. let t = done-only sheet-codes bits s rest e in (t.1, t.0),
  λ h. ap sheet h.1 ∙ sheet-codes.back s h.0 rest,
)

zeros-false : (n : ℕ) → Every (λ b. b ≡ false) (replicate n false)
zeros-false zero = tt
zeros-false (suc n) = (refl, zeros-false n)

pub fill-good : (bs : List Bool) → bad_fill (replicate (fill bs) false) ≡ false
fill-good bs = (fill-exactly (replicate (fill bs) false)).1 (rw (length-replicate (fill bs) false) (omega arith), zeros-false (fill bs))

pub nothing-legal-is-refused : NothingLegalIsRefused
unfolding encode
nothing-legal-is-refused s h =
    let bs = sheet_bits s in
    let n = sheet-size s h.limits in (
      record {
        rest = replicate (fill bs) false;
        short = rw (length-pack bs) (omega arith);
        read = rw (bits_of-pack bs) (sheet-codes.back s h.limits (replicate (fill bs) false));
        fill = fill-good bs;
        words = (words-exactly s.words).1 h.words;
        once = (twice-exactly s).1 h.once;
      },
      pack-bytes bs,
    )

pub nothing-illegal-is-read : NothingIllegalIsRead
unfolding encode
nothing-illegal-is-read bytes s rest b e f w t =
    let r = done-only sheet-codes (bits_of bytes) s rest e in
    let z = (fill-exactly rest).0 f in (
      record { limits = r.1; words = (words-exactly s.words).0 w; once = (twice-exactly s).0 t },
      packed-only bytes (sheet_bits s) rest b r.0 z.0 (none-set rest z.1),
    )

pub held-exactly : HeldExactly
held-exactly bytes s b = (
  λ h. nothing-illegal-is-read bytes s h.rest b h.read h.fill h.words h.once,
  λ h. subst (λ l. Holds l s) (sym h.1) (nothing-legal-is-refused s h.0).0,
)

pub one_map : OneMap
one_map s t h k e =
    let p = (nothing-legal-is-refused s h).0 in
    let q = (nothing-legal-is-refused t k).0 in
    done-value s t p.rest q.rest (sym p.read ∙ ap (λ l. sheet (bits_of l)) e ∙ q.read)

pub four-stays : FourStays
four-stays bits more e = refused-stays sheet-codes bits more e

-- ---- sheets that are cut short, or go on

-- of two lists that go on to the same, the shorter begins the longer
begins : {A : Type 0} (x w a z : List A) → a ++ z ≡ x ++ w → length x ≤ length a → a ≡ x ++ drop (length x) a
begins [] w a z e h = refl
begins (b ∷ x) w [] z e h = absurd (omega arith)
begins (b ∷ x) w (c ∷ a) z e h =
    let p : c ≡ b = ap (λ l. get_or l 0 c) e in
    let q : a ++ z ≡ x ++ w = ap (λ l. drop 1 l) e in
    rw p (ap (λ l. b ∷ l) (begins x w a z q (omega arith)))

pub cut-short-read : (s : Sheet) (k : ℕ) → Legal s → k < length (encode s) → sheet (bits_of (take k (encode s))) ≡ refused past
unfolding encode
cut-short-read s k h l =
    let bs = sheet_bits s in
    let xs = bits_of (take k (pack bs)) in
    let n : length xs ≡ 8 * k = length-bits_of (take k (pack bs)) ∙ ap (λ j. 8 * j) (length-take k (pack bs) ∙ omega arith) in
    let m : 8 * k < length bs = omega (arith, length-pack bs) in
    let e : bs ++ replicate (fill bs) false ≡ xs ++ bits_of (drop k (pack bs)) =
    sym (bits_of-pack bs) ∙ ap bits_of (sym (take-append-drop k (pack bs))) ∙ bits_of-append (take k (pack bs)) (drop k (pack bs)) in
    cut_short sheet-codes s h.limits xs (drop (length xs) bs)
    (begins xs (bits_of (drop k (pack bs))) bs (replicate (fill bs) false) e (omega arith))
    (omega (arith, length-drop (length xs) bs))

pub more-read : (s : Sheet) (b : ℕ) (more : List ℕ) → Legal s → (rest : List Bool) × (sheet (bits_of (encode s ++ b ∷ more)) ≡ done s rest) × (bad_fill rest ≡ true)
unfolding bad_fill
more-read s b more h =
    let t = (nothing-legal-is-refused s h).0 in
    let bits = bits_of (b ∷ more) in
    let n : 8 ≤ length (t.rest ++ bits) = omega (arith, length-append t.rest bits, length-bits_of (b ∷ more)) in (
      t.rest ++ bits,
      ap sheet (bits_of-append (encode s) (b ∷ more)) ∙ done-stays sheet-codes (bits_of (encode s)) s t.rest bits t.read,
      or_left (any (λ b. b) (t.rest ++ bits)) (le-leb 8 (length (t.rest ++ bits)) n),
    )
