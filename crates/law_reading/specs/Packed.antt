-- Bits that are packed into bytes, and the bytes of bits.
use Rattle.std.specs.Prelude.{Bool, true, false, List, [], ◌∷◌, ◌++◌, ◌≡◌, refl, ℕ, zero, suc, ◌+◌, ◌*◌, ◌-◌, ◌<◌, length, drop, replicate}
use Rattle.std.proofs.Common.{sym, ap, ap₂, ◌∙◌, mod-eq_of_lt, arith, length-append}
use Rattle.std.proofs.Math.Seq
use Rattle.lists.specs.Lists.{any}
use Rattle.lists.specs.Tests.{never}
use Rattle.definitions.specs.Bits.{to_bits, bits_of, pack_to, size, pack}
use Rattle.law_reading.specs.Statements.{Bytes}
use Rattle.bits.specs.NumberLaws.{length-to_bits, num-lt, num-to_bits, length-bits_of, length-pack_to, bits_of-pack}

pack_to-bytes : (k : ℕ) (bs : List Bool) → Bytes (pack_to k bs)
unfolding pack_to
pack_to-bytes zero bs = tt
pack_to-bytes (suc k) bs = (num-lt 8 bs, pack_to-bytes k (drop 8 bs))

pub length-pack : (bs : List Bool) → length (pack bs) ≡ size (length bs)
unfolding pack
length-pack bs = length-pack_to (size (length bs)) bs

pub pack-bytes : (bs : List Bool) → Bytes (pack bs)
unfolding pack
pack-bytes bs = pack_to-bytes (size (length bs)) bs

-- how many zeros fill the last byte
abbrev pub fill : List Bool → ℕ
fill bs = 8 * size (length bs) - length bs

-- bytes are packed from their bits
packed-again : (s : List ℕ) → Bytes s → pack_to (length s) (bits_of s) ≡ s
unfolding pack_to bits_of
packed-again [] h = refl
packed-again (x ∷ s) h =
    rw (num-to_bits 8 x (bits_of s), mod-eq_of_lt h.0, Seq.drop_at (to_bits 8 x) (bits_of s) 8 (length-to_bits 8 x))
    (ap (λ (l : List ℕ). x ∷ l) (packed-again s h.1))

zeros : (rest : List Bool) → any (λ b. b) rest ≡ false → rest ≡ replicate (length rest) false
zeros [] e = refl
zeros (true ∷ rest) e = never refl e
zeros (false ∷ rest) e = ap (λ (l : List Bool). false ∷ l) (zeros rest e)

-- bytes whose bits are these and fewer than eight zeros are those that the bits are packed into
pub packed-only : (s : List ℕ) (bs rest : List Bool) → Bytes s → bits_of s ≡ bs ++ rest → length rest < 8 → any (λ b. b) rest ≡ false → s ≡ pack bs
unfolding pack
packed-only s bs rest h e l z =
    let p : 8 * length s ≡ length bs + length rest = sym (length-bits_of s) ∙ ap length e ∙ length-append bs rest in
    let n : length s ≡ size (length bs) = omega arith in
    let m : length rest ≡ fill bs = omega arith in
    let r : rest ≡ replicate (fill bs) false = zeros rest z ∙ ap (λ k. replicate k false) m in
    let q : bits_of s ≡ bits_of (pack bs) = e ∙ ap (λ t. bs ++ t) r ∙ sym (bits_of-pack bs) in
    sym (packed-again s h)
    ∙ ap₂ pack_to (n ∙ sym (length-pack bs)) q
    ∙ packed-again (pack bs) (pack-bytes bs)
