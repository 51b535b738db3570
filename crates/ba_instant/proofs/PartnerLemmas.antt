-- The facts that may pass the test of a key with a fact.
use Rattle.std.proofs.Common.{◌≡◌, ◌∙◌, ℕ, ◌+◌, ◌<◌, ◌≤◌, ◌⊎◌, inl, inr, List, [], ◌∷◌, ◌++◌, length, sym, ap, subst, arith}
use Rattle.std.proofs.Math.ListN.{get_or}
use Rattle.std.proofs.Math.Nat.{eq-or-lt_of_le}
use Rattle.std.proofs.lemmas.List.Elements.{Contains-append_left, Contains-push}
use Rattle.std.proofs.lemmas.Option.{get_or_from_slice_get, none-some, same_Some, slice_get-get_or}
use Rattle.std.specs.List.{All, Any, Contains}
use Rattle.std.specs.Prelude.{Option, Some, None, slice_get}
use Rattle.ba_model.specs.declared.schema.Schema.{Schema}
use Rattle.ba_model.specs.declared.schema.Table.{Table}
use Rattle.ba_facts.proofs.LaidLemmas.{laid_unknown}
use Rattle.ba_facts.specs.Known.{OneClass}
use Rattle.ba_facts.specs.Laid.{IsHolder, IsLaid, IsTermOf}
use Rattle.ba_facts.specs.Members.{AreMembers, IsOnlyClass}
use Rattle.ba_facts.specs.Shown.{TheSame}
use Rattle.ba_facts.specs.declared.branch.Branch.{Branch}
use Rattle.ba_facts.specs.declared.term.Fact.{Fact}
use Rattle.ba_facts.specs.declared.term.Term.{Term}
use Rattle.ba_facts.specs.declared.term.Term.TheVariants.{Unknown}
use Rattle.ba_kernel.specs.Steps.{AreEqualAt}
use Rattle.ba_instant.proofs.PairLemmas.{shared_by}
use Rattle.ba_instant.specs.Scans.{AreRecent}
use Rattle.ba_instant.specs.Partners.{ArePartners, Gains, HasAny, IsEqualIn, IsEqualOnAny}

-- ---- more numbers

pub gains_nothing : (old : List ℕ) (P : ℕ → Type 0) → ((n : ℕ) → P n → ⊥) → Gains old old P
gains_nothing old P none = record { keeps = λ n in_. in_; gains = λ n p. absurd (none n p) }

pub gains_one : (old new : List ℕ) (m : ℕ) (P : ℕ → Type 0) → new ≡ old ++ m ∷ [] → ((n : ℕ) → P n → m ≡ n) → Gains old new P
gains_one old new m P is only =
    record {
      keeps = λ n in_. subst (λ ns. Contains ns n) (sym is) (Contains-append_left old (m ∷ []) n in_);
      gains = λ n p. subst (Contains new) (only n p) (subst (λ ns. Contains ns m) (sym is) (Contains-push old m));
    }

pub gains_as : (old new : List ℕ) (P Q : ℕ → Type 0) → ((n : ℕ) → Q n → P n) → Gains old new P → Gains old new Q
gains_as old new P Q to h = record { keeps = h.keeps; gains = λ n q. h.gains n (to n q) }

-- of the elements before a number
abbrev pub IsOfFront : {X : Type 0} → (X → ℕ → Type 0) → List X → ℕ → ℕ → Type 0
IsOfFront P xs end n = (i : ℕ) × (i < end) × (x : _) × (slice_get xs i ≡ Some x) × P x n

module _ {X : Type 0} (P : X → ℕ → Type 0) (xs : List X) where
  pub front_none : (old : List ℕ) → Gains old old (IsOfFront P xs 0)
  front_none old = gains_nothing old (IsOfFront P xs 0) (λ n h. let below = h.1 in let no : ⊥ = omega (arith, below) in no)

  pub front_more : (i : ℕ) (x : X) (old mid new : List ℕ) → i < length xs → x ≡ get_or xs i x → Gains old mid (IsOfFront P xs i) → Gains mid new (P x) → Gains old new (IsOfFront P xs (i + 1))
  front_more i x old mid new inside is before now =
      record {
        keeps = λ n in_. now.keeps n (before.keeps n in_);
        gains = λ n h. last n h (eq-or-lt_of_le (let below = h.1 in let most : h.0 ≤ i = omega (arith, below) in most));
      }
    where
      there : slice_get xs i ≡ Some x
      there = slice_get-get_or xs i x inside ∙ ap Some (sym is)

      last : (n : ℕ) (h : IsOfFront P xs (i + 1) n) → (h.0 ≡ i) ⊎ (h.0 < i) → Contains new n
      last n (j, below, y, at, p) (inl same) =
          let one : x ≡ y = same_Some x y (sym there ∙ subst (λ k. slice_get xs k ≡ Some y) same at) in
          now.gains n (subst (λ z. P z n) (sym one) p)
      last n (j, below, y, at, p) (inr less) = now.keeps n (before.gains n (j, less, y, at, p))

  pub front_all : (i : ℕ) (old new : List ℕ) → length xs ≤ i → Gains old new (IsOfFront P xs i) → Gains old new (λ n. Any (λ x. P x n) xs)
  front_all i old new past h =
      gains_as old new (IsOfFront P xs i) (λ n. Any (λ x. P x n) xs)
      (λ n (j, x, below, is, p). (j, omega (arith, below, past), x, slice_get-get_or xs j x below ∙ ap Some is, p)) h

pub front_number : (P : ℕ → ℕ → Type 0) (xs : List ℕ) (i : ℕ) (old mid new : List ℕ) → i < length xs → Gains old mid (IsOfFront P xs i) → Gains mid new (P (get_or xs i 0)) →
    Gains old new (IsOfFront P xs (i + 1))
front_number P xs i old mid new inside before now =
    front_more P xs i (get_or xs i 0) old mid new inside (sym (get_or_from_slice_get xs i (get_or xs i 0) (get_or xs i 0) (slice_get-get_or xs i 0 inside))) before now

-- ---- one key

module _ (b : Branch) (f : Fact) (laid : IsLaid b) where
  -- a fact that is equal to it in the column has a term of the same class there
  equal_has : (column : ℕ) (t : Term) (members : List ℕ) → slice_get f.terms column ≡ Some t → IsOnlyClass b.known t → AreMembers b.known t members → (n : ℕ) → IsEqualIn b f column n →
      HasAny b members n
  equal_has column t members there only are n h =
      let at = h.equal in
      let same : at.a ≡ t = same_Some at.a t (sym at.left_is ∙ there) in
      let unknown = laid_unknown 0 (length b.known.unknowns) b.facts n column at.c h.g laid h.there at.right_is in
      let class : OneClass b.known t (Unknown unknown.0) = subst (OneClass b.known t) unknown.1 (only at.c (subst (λ (x : Term). TheSame b.known x at.c) same at.equal.same)) in
      let in_ = (are unknown.0).1 class in
      (in_.0, unknown.0, in_.1, in_.2, record { fact = h.g; there = h.there; column = column; has = at.right_is ∙ ap Some unknown.1 })

  pub members_gain : (column : ℕ) (t : Term) (members old new : List ℕ) → slice_get f.terms column ≡ Some t → IsOnlyClass b.known t → AreMembers b.known t members →
      Gains old new (HasAny b members) → Gains old new (IsEqualIn b f column)
  members_gain column t members old new there only are h = gains_as old new (HasAny b members) (IsEqualIn b f column) (equal_has column t members there only are) h

-- ---- all keys

pub partners_by : (s : Schema) (b : Branch) (one : ℕ) (f : Fact) (table : Table) (facts : List ℕ) → slice_get b.facts one ≡ Some f → slice_get s.tables f.table ≡ Some table →
    ((number : ℕ) → IsEqualOnAny b f table.keys number → Contains facts number) → ArePartners s b one facts
partners_by s b one f table facts there table_is has other h =
    let g = (h.1).g in
    let right = (h.1).pair.right_is in
    let equal = (shared_by s b one other f g there right h).2 in
    let same : equal.table ≡ table = same_Some equal.table table (sym equal.table_is ∙ table_is) in
    let any = subst (λ (t : Table). Any (λ columns. All (AreEqualAt b f.terms g.terms) columns) t.keys) same equal.key in
    has other (any.0, any.1, any.2, any.3, record { g = g; there = right; equal = any.4 })

pub all_partners : (s : Schema) (b : Branch) (one : ℕ) (facts : List ℕ) → AreRecent b 0 facts → ArePartners s b one facts
all_partners s b one facts are other h = are other (h.1).g (h.1).pair.right_is (omega arith)

-- the facts' holder
pub holder_gains : (b : Branch) (unknown number : ℕ) (old new : List ℕ) (holder : Option ℕ) → holder ≡ Some number → IsHolder b.facts unknown holder → new ≡ old ++ number ∷ [] →
    Gains old new (IsTermOf b.facts unknown)
holder_gains b unknown number old new holder is exact pushed =
    gains_one old new number (IsTermOf b.facts unknown) pushed (λ n h. same_Some number n (sym is ∙ (exact n).1 h))

pub none_gains : (b : Branch) (unknown : ℕ) (old : List ℕ) (holder : Option ℕ) → holder ≡ None → IsHolder b.facts unknown holder → Gains old old (IsTermOf b.facts unknown)
none_gains b unknown old holder is exact = gains_nothing old (IsTermOf b.facts unknown) (λ n h. none-some n (sym is ∙ (exact n).1 h))
