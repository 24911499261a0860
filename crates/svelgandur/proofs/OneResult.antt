-- One result for each call from C: any two that its promise allows are equal, the four numbers and all that is lent for writing.
-- Assumes nothing.
use mathlib.Core.Path.{◌≡◌}
use mathlib.Core.Bool.{Bool}
use mathlib.Core.List.{List}
use Prim.Native.Nat.{ℕ}
use Rattle.meaning.specs.declared.Fact.{Fact}
use Rattle.fields.proofs.Once.{itself, once, once-left}
use Rattle.svelgandur.specs.Promises.{RegisterPromise, RequirementPromise, InnerPromise, WritePromise, DegreePromise, ListPromise, MarginPromise, MemberPromise}
use Rattle.svelgandur.specs.Promises.{OpenPromise, EditPromise, UndoPromise, KeepPromise}

-- numbers stand for themselves, and so does what is lent
abbrev numbers : (a l k : List ℕ) → l ≡ a → k ≡ a → l ≡ k
numbers = once (λ (x : List ℕ). x) itself

abbrev numbers-left : (a b l k new new' : List ℕ) → (l ≡ a) × (new ≡ b) → (k ≡ a) × (new' ≡ b) → (l ≡ k) × (new ≡ new')
numbers-left = once-left (λ (x : List ℕ). x) itself

module _ {l k : List ℕ} where
  pub one-register : (image : List ℕ) (session : ℕ) → RegisterPromise image session l → RegisterPromise image session k → l ≡ k
  one-register image session = numbers _ _ _

  pub one-requirement : (message : List ℕ) → RequirementPromise message l → RequirementPromise message k → l ≡ k
  one-requirement message = numbers _ _ _

  pub one-inner : (message : List ℕ) (n : ℕ) → InnerPromise message n l → InnerPromise message n k → l ≡ k
  one-inner message n = numbers _ _ _

  pub one-margin : (image message : List ℕ) (item x y : ℕ) → MarginPromise image message item x y l → MarginPromise image message item x y k → l ≡ k
  one-margin image message item x y = numbers _ _ _

  pub one-keep : (b log : List ℕ) (n : ℕ) → KeepPromise b log n l → KeepPromise b log n k → l ≡ k
  one-keep b log n = numbers _ _ _

  module _ {new new' : List ℕ} where
    pub one-degree : (image message : List ℕ) (item : ℕ) (old : List ℕ) → DegreePromise image message item old new l
        → DegreePromise image message item old new' k → (l ≡ k) × (new ≡ new')
    one-degree image message item old = numbers-left _ _ _ _ _ _

    pub one_list : (image message old : List ℕ) → ListPromise image message old new l → ListPromise image message old new' k → (l ≡ k) × (new ≡ new')
    one_list image message old = numbers-left _ _ _ _ _ _

    pub one-member : (image message : List ℕ) (item : ℕ) (old : List ℕ) → MemberPromise image message item old new l
        → MemberPromise image message item old new' k → (l ≡ k) × (new ≡ new')
    one-member image message item old = numbers-left _ _ _ _ _ _

    pub one-write : (nodes hs inner old : List ℕ) → WritePromise nodes hs inner old new l → WritePromise nodes hs inner old new' k → (l ≡ k) × (new ≡ new')
    one-write nodes hs inner old = numbers-left _ _ _ _ _ _

    pub one-open : (b : List ℕ) → OpenPromise b new l → OpenPromise b new' k → (l ≡ k) × (new ≡ new')
    one-open b = numbers-left _ _ _ _ _ _

    pub one-undo : (b log : List ℕ) (n : ℕ) → UndoPromise b log n new l → UndoPromise b log n new' k → (l ≡ k) × (new ≡ new')
    one-undo b log n = numbers-left _ _ _ _ _ _

    pub one-edit : (b log : List ℕ) (n : ℕ) (fact : Fact) (adds : Bool) (log₁ log₂ : List ℕ) → EditPromise b log n fact adds new log₁ l
        → EditPromise b log n fact adds new' log₂ k → (l ≡ k) × (new ≡ new') × (log₁ ≡ log₂)
    one-edit b log n fact adds log₁ log₂ p q = (numbers _ _ _ p.0 q.0, numbers _ _ _ p.1 q.1, numbers _ _ _ p.2 q.2)
