-- What a writer of rows keeps, and what it has written.
use Rattle.std.specs.Prelude.{true, cond, List, [], ◌++◌, ◌≡◌, refl, ℕ, ◌+◌, min, ltb}
use Rattle.std.specs.Borrow.{MutBor}
use Rattle.std.proofs.Common.{sym, ap, ap₂, ◌∙◌, arith, le-ltb, lt-ltb}
use Rattle.lists.specs.Tests.{by}
use Rattle.emitting.specs.Emitting.{State, emit, emit-append, emit-full}
use Rattle.emitting.specs.declared.Report.{Report}
use Rattle.emitting.specs.declared.Writer.{Writer}

-- how many rows it counts: one past the limit where there are more
abbrev pub counted : Writer → ℕ
counted w = w.count + cond w.more 1 0

-- its slice, and how many rows it counts
abbrev pub state : Writer → State
state w = (w.buf.now, counted w)

pub counted-over : (w : Writer) → w.more ≡ true → counted w ≡ w.limit + 1
counted-over w e = rw e (ap (λ (n : ℕ). n + 1) (w.full e))

-- what the count tells of both
pub counted-rows : (w : Writer) → w.count ≡ min (counted w) w.limit
counted-rows w = by w.more
    (λ e. rw e (omega (arith, w.full e)))
    (λ e. rw e (omega (arith, w.few)))

pub counted-more : (w : Writer) → w.more ≡ ltb w.limit (counted w)
counted-more w = by w.more
    (λ e. e ∙ sym (lt-ltb w.limit (counted w) (omega (arith, counted-over w e))))
    (λ e. e ∙ sym (rw e (le-ltb w.limit (w.count + 0) (omega (arith, w.few)))))

-- w writes into this slice, and has written nothing
pub record Begins (lent : MutBor (List ℕ)) (most : ℕ) (w : Writer) : Type 0 where
  pub slice : w.buf.ghost_name ≡ lent.ghost_name
  pub limit : w.limit ≡ most
  pub state : state w ≡ (lent.now, 0)

-- new writes into the slice of old, as many rows
pub record SameSlice (old new : Writer) : Type 0 where
  pub slice : new.buf.ghost_name ≡ old.buf.ghost_name
  pub limit : new.limit ≡ old.limit

pub same_self : (w : Writer) → SameSlice w w
same_self w = record { slice = refl; limit = refl }

pub same_then : (a b c : Writer) → SameSlice a b → SameSlice b c → SameSlice a c
same_then a b c x y = record { slice = y.slice ∙ x.slice; limit = y.limit ∙ x.limit }

-- new is old behind what leaves it so
pub record Adds (old new : Writer) (to : State) : Type 0 where
  pub same : SameSlice old new
  pub state : state new ≡ to

-- how many rows were written, and whether there are more (FORMAT 8.2)
pub record Tells (w : Writer) (r : Report) : Type 0 where
  pub rows : r.rows ≡ w.count
  pub more : r.more ≡ w.more

pub told-rows : (w : Writer) (r : Report) → Tells w r → r.rows ≡ min (counted w) w.limit
told-rows w r t = t.rows ∙ counted-rows w

pub told-more : (w : Writer) (r : Report) → Tells w r → r.more ≡ ltb w.limit (counted w)
told-more w r t = t.more ∙ counted-more w

-- new is old behind these rows, whose bytes f gives
abbrev pub Emits : {R : Type 0} → (R → List ℕ) → Writer → Writer → List R → Type 0
Emits f old new rs = Adds old new (emit f old.limit (state old) rs)

module _ {R : Type 0} (f : R → List ℕ) where
  pub emits_none : (w : Writer) → Emits f w w []
  unfolding emit
  emits_none w = record { same = same_self w; state = refl }

  pub emits_then : (a b c : Writer) (rs qs : List R) → Emits f a b rs → Emits f b c qs → Emits f a c (rs ++ qs)
  emits_then a b c rs qs x y =
      record {
        same = same_then a b c x.same y.same;
        state = y.state ∙ ap₂ (λ n s. emit f n s qs) x.same.limit x.state ∙ sym (emit-append f a.limit (state a) rs qs);
      }

  -- past the limit nothing more is written
  pub emits_over : (w : Writer) (rs : List R) → w.more ≡ true → Emits f w w rs
  emits_over w rs t =
      record { same = same_self w; state = rw (counted-over w t) (sym (emit-full f w.limit w.buf.now rs)) }

  pub emits_begun : (slice : MutBor (List ℕ)) (limit : ℕ) (w w' : Writer) (rs : List R) → Begins slice limit w → Emits f w w' rs → state w' ≡ emit f limit (slice.now, 0) rs
  emits_begun slice limit w w' rs b e = e.state ∙ ap₂ (λ n s. emit f n s rs) b.limit b.state
