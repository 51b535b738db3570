-- The least unknown of a class, and the list of those that are valued by numbers.
use Rattle.std.proofs.Common.{◌≡◌, ℕ, ◌+◌, ◌<◌, ◌≤◌, List, [], ◌∷◌, ◌++◌, Contains, length, get_or, ⊎_elim, subst, arith, rules, nat_eq, IsTrue, ◌↔◌}
use Rattle.std.specs.List.Sorted.{IsStrictlyIncreasing}
use Rattle.std.proofs.lemmas.Bool.{cases_lt}
use Rattle.std.proofs.lemmas.List.{length_push, get_or_append_left, get_or_push}
use Rattle.std.proofs.lemmas.List.Elements.{Contains-append_left, Contains-get_or, Contains-push, Contains-push_cases}
use Rattle.std.proofs.lemmas.Map.Keys.{sorted_from_strictly_increasing}
use Rattle.ba_facts.specs.Knowing.{IsLeastOf}
use Rattle.ba_facts.specs.Known.{Known, itself, joined}
use Rattle.ba_model.proofs.ElementLemmas.{Contains-nil}
use Rattle.ba_refute.specs.Images.{AreNodes, IsLeastUnknown, IsNode}

-- ---- the least unknown of a class

pub least_exact : (k : Known) (n r : ℕ) → IsLeastOf k n r → n < length k.unknowns → (r ≡ n) ↔ IsLeastUnknown k n
least_exact k n r found there = (
  λ e. record { there = there; least = λ m less h. found.none_less m (omega (arith, e, less)) h },
  λ h. ⊎_elim
      (λ (less : r < n). absurd (h.least r less found.one_class))
      (λ (past : n ≤ r). ⊎_elim
      (λ (more : n < r). absurd (found.none_less n more itself))
      (λ (upto : r ≤ n). omega (arith, past, upto))
      (cases_lt n r))
      (cases_lt r n),
)

pub least_is : (k : Known) (n r : ℕ) → IsLeastOf k n r → n < length k.unknowns → IsLeastUnknown k r
least_is k n r found there = record {
  there = ⊎_elim
      (λ (more : n < r). absurd (found.none_less n more itself))
      (λ (upto : r ≤ n). omega (arith, there, upto))
      (cases_lt n r);
  least = λ m less h. found.none_less m less (joined found.one_class h);
}

-- ---- the nodes

-- the nodes among the first unknowns
pub record AreNodesTo (k : Known) (i : ℕ) (nodes : List ℕ) : Type 0 where
  pub increasing : IsStrictlyIncreasing nodes
  pub below : (n : ℕ) → Contains nodes n → n < i
  pub sound : (n : ℕ) → Contains nodes n → IsNode k n
  pub complete : (n : ℕ) → n < i → IsNode k n → Contains nodes n

pub nodes_none : (k : Known) → AreNodesTo k 0 []
nodes_none k = record {
  increasing = λ j h. absurd (omega (arith, h));
  below = λ n h. absurd (Contains-nil n h);
  sound = λ n h. absurd (Contains-nil n h);
  complete = λ n h is. absurd (omega (arith, h));
}

pub nodes_pass : (k : Known) (i : ℕ) (nodes : List ℕ) → AreNodesTo k i nodes → (IsNode k i → ⊥) → AreNodesTo k (i + 1) nodes
nodes_pass k i nodes so_far fails = record {
  increasing = so_far.increasing;
  below = λ n h. let less : n < i = so_far.below n h in omega (arith, less);
  sound = so_far.sound;
  complete = λ n less is. ⊎_elim
      (λ (old : n < i). so_far.complete n old is)
      (λ (past : i ≤ n). let at : n ≡ i = omega (arith, less, past) in absurd (fails (subst (IsNode k) at is)))
      (cases_lt n i);
}

increases : (i : ℕ) (nodes : List ℕ) → IsStrictlyIncreasing nodes → ((n : ℕ) → Contains nodes n → n < i) → IsStrictlyIncreasing (nodes ++ i ∷ [])
increases i nodes old below j within = ⊎_elim
    (λ (inside : j + 1 < length nodes).
    let low = get_or_append_left nodes (i ∷ []) 0 j (omega (arith, inside)) in
    let high = get_or_append_left nodes (i ∷ []) 0 (j + 1) inside in
    let rises : get_or nodes j 0 < get_or nodes (j + 1) 0 = old j inside in
    omega (arith, low, high, rises))
    (λ (past : length nodes ≤ j + 1).
    let last : length nodes ≡ j + 1 = omega (arith, past, within, length_push nodes i) in
    let low = get_or_append_left nodes (i ∷ []) 0 j (omega (arith, last)) in
    let high = get_or_push nodes i 0 (j + 1) last in
    let less : get_or nodes j 0 < i = below (get_or nodes j 0) (Contains-get_or nodes j 0 (omega (arith, last))) in
    omega (arith, low, high, less))
    (cases_lt (j + 1) (length nodes))

pub nodes_more : (k : Known) (i : ℕ) (nodes : List ℕ) → AreNodesTo k i nodes → IsNode k i → AreNodesTo k (i + 1) (nodes ++ i ∷ [])
nodes_more k i nodes so_far is_node = record {
  increasing = increases i nodes so_far.increasing so_far.below;
  below = λ n h. ⊎_elim
      (λ (old : Contains nodes n). let less : n < i = so_far.below n old in omega (arith, less))
      (λ (e : i ≡ n). omega (arith, e))
      (Contains-push_cases nodes i n h);
  sound = λ n h. ⊎_elim
      (λ (old : Contains nodes n). so_far.sound n old)
      (λ (e : i ≡ n). subst (IsNode k) e is_node)
      (Contains-push_cases nodes i n h);
  complete = λ n less is. ⊎_elim
      (λ (old : n < i). Contains-append_left nodes _ _ (so_far.complete n old is))
      (λ (past : i ≤ n). let at : i ≡ n = omega (arith, less, past) in subst (Contains (nodes ++ i ∷ [])) at (Contains-push nodes i))
      (cases_lt n i);
}

pub nodes_all : (k : Known) (i : ℕ) (nodes : List ℕ) → length k.unknowns ≤ i → AreNodesTo k i nodes → AreNodes k nodes
nodes_all k i nodes past so_far = record {
  rising = sorted_from_strictly_increasing nodes so_far.increasing;
  sound = so_far.sound;
  complete = λ n is. so_far.complete n (let there : n < length k.unknowns = is.least.there in omega (arith, there, past)) is;
}

pub equal_of_true : (n m : ℕ) → IsTrue (nat_eq n m) → n ≡ m
equal_of_true n m t = search rules

pub true_of_equal : (n m : ℕ) → n ≡ m → IsTrue (nat_eq n m)
true_of_equal n m e = search rules
