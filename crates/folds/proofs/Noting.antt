-- A node's row of the notes, noted item by item: after each item the link that leads where the node goes from it.
-- Assumes nothing.
use mathlib.Core.Path.{◌≡◌, refl, sym, ap, subst, ◌∙◌}
use mathlib.Core.Bool.{true, false}
use mathlib.Core.Logic.{inl, inr}
use mathlib.Core.List.{List, []}
use mathlib.Core.Option.{Option, some}
use Prim.Native.Nat.{ℕ, ◌+◌, ◌≤◌, ◌<◌}
use native.Mathlib.Decide.{ℕ_discrete, dec_lt}
use native.Mathlib.Omega.{arith}
use lib.ListN.{length, get_or, set, length-set}
use lib.Seq.{get_or-set_same, get_or-set_other, set_out}
use borrow.Author.Tests.{eq-eqb, ne_eqb}
use Rattle.meaning.specs.Names.{has}
use Rattle.meaning.specs.Session.{with_name}
use Rattle.meaning.specs.Register.{Register}
use Rattle.meaning.specs.Shown.{pick}
use Rattle.meaning.proofs.SessionNames.{has-none, with-has}
use Rattle.meaning.proofs.Tests.{true-false, not_some}
use Rattle.std.specs.Prelude.{Some, None, MatchOption, Option as Found}
use Rattle.graph.specs.Sets.{Next}
use Rattle.graph.specs.Walked.{walked}
use Rattle.graph.specs.Judged.{start_no, end_no, Runs}
use Rattle.folds.specs.declared.Best.{Best}
use Rattle.folds.specs.Notes.{flag, Note, Outside, Clear}
use Rattle.folds.specs.Folded.{Top}
use Rattle.folds.specs.Members.{Member}
use Rattle.folds.proofs.Fill.{before_next, before_more}

-- notes with no places
pub clear_none : (n e : ℕ) → Clear [] n e
clear_none n e j k l m = has-none j

-- ---- node n is noted at the link `at`; nothing is where the notes have no place for it

module _ (notes : List ℕ) (at n : ℕ) where
  abbrev pub note_at : List ℕ
  note_at = set notes at (with_name true n (get_or notes at 0))

  flag-here : at < length notes → flag note_at n at ≡ true
  flag-here l = rw (get_or-set_same notes at (with_name true n (get_or notes at 0)) 0 l, with-has true n (get_or notes at 0) n, eq-eqb n n refl) refl

  -- no other link's set changes
  flag-link : (j k : ℕ) → (k ≡ at → ⊥) → flag note_at j k ≡ flag notes j k
  flag-link j k d = ap (λ (z : ℕ). has z j) (get_or-set_other notes at k (with_name true n (get_or notes at 0)) 0 d)

  -- no other row changes
  flag-row : (j k : ℕ) → (j ≡ n → ⊥) → flag note_at j k ≡ flag notes j k
  flag-row j k d = go (ℕ_discrete k at) (dec_lt at (length notes))
    where
      go : Dec (k ≡ at) → Dec (at < length notes) → flag note_at j k ≡ flag notes j k
      go (no e) b = flag-link j k e
      go (yes e) (yes l) = rw (e, get_or-set_same notes at (with_name true n (get_or notes at 0)) 0 l, with-has true n (get_or notes at 0) j, ne_eqb n j (λ z. d (sym z))) refl
      go (yes e) (no l) = ap (λ (t : List ℕ). flag t j k) (set_out notes at (with_name true n (get_or notes at 0)) (omega (arith, l)))

-- ---- all members in turn

module _ (g : Register) (v : ℕ → ℕ) (role node : ℕ) (members : List ℕ) where
  -- where the node goes from x
  abbrev choice : ℕ → Option ℕ
  choice x = pick v ((walked g).next x role)

  -- those before i are noted
  pub record Noting (old new : List ℕ) (i : ℕ) : Type 0 where
    pub size : length new ≡ length old
    pub done : (x : ℕ) → x < i → Member members x → Note g new node x (pick v ((walked g).next x role))
    pub ahead : (k : ℕ) → k < length g.links → i ≤ start_no g k → flag new node k ≡ false
    pub other : (j k : ℕ) → (j ≡ node → ⊥) → flag new j k ≡ flag old j k

  pub noting-none : (old : List ℕ) → ((k : ℕ) → flag old node k ≡ false) → Noting old old 0
  noting-none old h = record {
    size = refl;
    done = λ x l m. absurd (omega arith);
    ahead = λ k b l. h k;
    other = λ j k d. refl;
  }

  module _ (old new : List ℕ) (i : ℕ) (w : Noting old new i) where
    -- no member stands before j
    pub noting-on : (j : ℕ) → Next members i j → Noting old new j
    noting-on j n = record {
      size = w.size;
      done = before_next members (λ x. Note g new node x (choice x)) i j n w.done;
      ahead = λ k b l. w.ahead k b (let q = n.behind in omega arith);
      other = w.other;
    }

    -- it has no successor
    stay : ((y : ℕ) → choice i ≡ some y → ⊥) → Noting old new (i + 1)
    stay lost = record {
      size = w.size;
      done = before_more (Member members) (λ x. Note g new node x (choice x)) i w.done (record {
        only = λ k b f t. absurd (true-false t (w.ahead k b (omega (arith, f))));
        one = λ y e. absurd (lost y e);
      });
      ahead = λ k b l. w.ahead k b (omega arith);
      other = w.other;
    }

    -- it goes along a link of its own
    along : (at : ℕ) → at < length g.links → start_no g at ≡ i → choice i ≡ some (end_no g at) → Noting old (note_at new at node) (i + 1)
    along at b s o = record {
      size = length-set new at (with_name true node (get_or new at 0)) ∙ w.size;
      done = before_more (Member members) (λ x. Note g (note_at new at node) node x (choice x)) i before here;
      ahead = λ k c l. flag-link new at node node k (apart k (start_no g k) refl (λ z. let y : start_no g k ≡ i = z in omega arith)) ∙ w.ahead k c (omega arith);
      other = λ n k d. flag-row new at node n k d ∙ w.other n k d;
    }
      where
        apart : (k x : ℕ) → start_no g k ≡ x → (x ≡ i → ⊥) → k ≡ at → ⊥
        apart k x f d e = d (sym f ∙ ap (start_no g) e ∙ s)

        before : (x : ℕ) → x < i → Member members x → Note g (note_at new at node) node x (choice x)
        before x l m =
            let past = w.done x l m in
            let other : x ≡ i → ⊥ = λ z. let y : x ≡ i = z in omega arith in
            record {
              only = λ k c f t. past.only k c f (sym (flag-link new at node node k (apart k x f other)) ∙ t);
              one = λ y e.
                  let p = past.one y e in
                  (p.0, p.1, p.2, λ c. flag-link new at node node p.0 (apart p.0 x p.2 other) ∙ p.3 (rw (length-set new at (with_name true node (get_or new at 0))) at c));
            }

        here : Note g (note_at new at node) node i (choice i)
        here = record {
          only = λ k c f t. go k c f t (ℕ_discrete k at);
          one = λ y e. (at, b, s, λ c. flag-here new at node (rw (length-set new at (with_name true node (get_or new at 0))) at c));
        }
          where
            go : (k : ℕ) → k < length g.links → start_no g k ≡ i → flag (note_at new at node) node k ≡ true → Dec (k ≡ at) → choice i ≡ some (end_no g k)
            go k c f t (yes d) = o ∙ ap (λ (z : ℕ). some (end_no g z)) (sym d)
            go k c f t (no d) = absurd (true-false (sym (flag-link new at node node k d) ∙ t) (w.ahead k c (omega (arith, f))))

    pub noting-more : (first end : ℕ) (b : Best) → Runs g i role first end → Top g v ((walked g).next i role) first end b → (new' : List ℕ)
        → MatchOption b.link (new' ≡ new) (λ k. new' ≡ note_at new k node) → Noting old new' (i + 1)
    noting-more first end b r t new' said = go b.link refl said
      where
        go : (o : Found ℕ) → b.link ≡ o → MatchOption o (new' ≡ new) (λ k. new' ≡ note_at new k node) → Noting old new' (i + 1)
        go (Some k) z q =
            let p = t.link k z in
            subst (λ (y : List ℕ). Noting old y (i + 1)) (sym q)
            (along k (let high = p.1 in let within = r.within in omega arith) (r.own k p.0 p.1) p.2)
        go None z q = subst (λ (y : List ℕ). Noting old y (i + 1)) (sym q) (stay (λ y e. not_some y (sym (t.none z) ∙ e)))

  pub noting-outside : (old new : List ℕ) (i : ℕ) → Noting old new i → Outside node (node + 1) old new
  noting-outside old new i w j k (inl l) = w.other j k (λ e. let z : j ≡ node = e in omega arith)
  noting-outside old new i w j k (inr l) = w.other j k (λ e. let z : j ≡ node = e in omega arith)
