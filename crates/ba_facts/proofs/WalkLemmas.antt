-- What each step of a walk over a part's tables comes to.
use Rattle.std.proofs.Common.{◌≡◌, ◌∙◌, ℕ, zero, suc, ◌+◌, ◌-◌, ◌<◌, ◌≤◌, ◌⊎◌, inl, inr, List, [], ◌∷◌, ◌++◌, drop, get_or, length, map, refl, set, sym, ap, subst, take}
use Rattle.std.proofs.Common.{append_assoc, append-nil, arith}
use Rattle.std.proofs.lemmas.List.{map-append, take-take, take_more, take_more_set}
use Rattle.std.proofs.lemmas.List.Elements.{All-append, All-contains, All-nil, All-cons, All-weaker, All-map, Contains-append_left}
use Rattle.std.proofs.lemmas.List.Elements.{Contains-append_cases, Contains-append_right, Contains-push, Contains-push_cases}
use Rattle.std.proofs.lemmas.List.FromFn.{get_or-range_with_len, length-range_with_len}
use Rattle.std.proofs.lemmas.Option.{slice_get_within}
use Rattle.std.specs.List.{Any, All, Contains, range_with_len}
use Rattle.std.specs.List.Sorted.{IsStrictlySortedBy}
use Rattle.std.specs.Cmp.Lexicographic.{slice_cmp}
use Rattle.std.specs.Ordering.{nat_cmp}
use Rattle.std.specs.declared.cmp.Ordering.TheVariants.{Less}
use Rattle.std.specs.Prelude.{Bool, IsTrue, false, not, true, Option, Some, None, slice_get, option_and_then}
use Rattle.ba_model.specs.declared.query.Atom.{Atom}
use Rattle.ba_model.specs.declared.query.Op.{Op}
use Rattle.ba_model.specs.declared.query.Operand.{Operand}
use Rattle.ba_model.specs.declared.query.Operand.TheVariants.{Col, Val, Param, Var}
use Rattle.ba_model.specs.declared.query.Part.{Part}
use Rattle.ba_facts.proofs.OrderOfListsLemmas.{less_at, rising_append}
use Rattle.ba_facts.specs.Walks.{AddsThose, AreRising, AreThose, BeginsIn, Completes, CompletesBy, Composes, FailsAt, Gathers, IsAnsweredFrom, IsSpared, IsThat, IsWanted, every}
use Rattle.ba_facts.specs.Matches.{AreMatches, IsAnswered, IsFactOf, IsMapping, IsMatch, IsLiveMapping, IsUndecided, Under}
use Rattle.ba_facts.specs.Matches.{term_of, terms_at}
use Rattle.ba_facts.specs.declared.branch.Branch.{Branch}
use Rattle.ba_facts.specs.declared.walk.Wanted.{Wanted}
use Rattle.ba_facts.specs.declared.walk.Wanted.TheVariants.{Live, Shown}
use Rattle.ba_facts.specs.declared.term.Mapping.{Mapping}
use Rattle.ba_facts.specs.declared.term.Side.{Side}
use Rattle.ba_facts.specs.declared.term.Term.{Term}

-- a term that is there stays as facts are added
get_kept : {X : Type 0} (xs ys : List X) (i : ℕ) (x : X) → slice_get xs i ≡ Some x → slice_get (xs ++ ys) i ≡ Some x
get_kept [] ys i x e = cc
get_kept (y ∷ xs) ys zero x e = e
get_kept (y ∷ xs) ys (suc i) x e = get_kept xs ys i x e

column_kept : (o p : Option (List Term)) (k : ℕ) (t : Term) → ((row : List Term) → o ≡ Some row → p ≡ Some row) →
    option_and_then (λ row. slice_get row k) o ≡ Some t → option_and_then (λ row. slice_get row k) p ≡ Some t
column_kept None p k t f e = cc
column_kept (Some row) p k t f e = rw (f row refl) e

pub term_kept : (rows more : List (List Term)) (x : Operand) (t : Term) → term_of rows x ≡ Some t → term_of (rows ++ more) x ≡ Some t
term_kept rows more (Col p k) t e = column_kept (slice_get rows p) (slice_get (rows ++ more) p) k t (get_kept rows more p) e
term_kept rows more (Val v) t e = e
term_kept rows more (Param n) t e = e
term_kept rows more (Var n) t e = e

-- an atom that fails already isn't met by more facts
fails_on : (P : Op → Term → Term → Type 0) (rows more : List (List Term)) (atom : Atom) → Under (λ op a b. ¬ (P op a b)) rows atom →
    Under P (rows ++ more) atom → ⊥
fails_on P rows more atom f h =
    let left_kept = term_kept rows more atom.left f.left f.left_is in
    let right_kept = term_kept rows more atom.right f.right f.right_is in
    let left_same : h.left ≡ f.left = cc (left_kept, h.left_is) in
    let right_same : h.right ≡ f.right = cc (right_kept, h.right_is) in
    f.holds (subst (λ a. P atom.op a f.right) left_same (subst (λ b. P atom.op h.left b) right_same h.holds))

-- ---- lists of mappings

module _ (b : Branch) (conds : List Atom) where
  those_same : {P Q : List ℕ → Type 0} (found : List Mapping) → ((facts : List ℕ) → P facts → Q facts) → ((facts : List ℕ) → Q facts → P facts) →
      AreThose b conds P found → AreThose b conds Q found
  those_same {P} {Q} found to back h = record {
    rising = h.rising;
    sound = All-weaker (IsThat b conds P) (IsThat b conds Q) (λ it that. record { holds = to it.facts that.holds; undecided = that.undecided }) found h.sound;
    complete = λ facts q. h.complete facts (back facts q);
  }

  pub adds_same : {P Q : List ℕ → Type 0} (old new : List Mapping) → ((facts : List ℕ) → P facts → Q facts) → ((facts : List ℕ) → Q facts → P facts) →
      AddsThose b conds P old new → AddsThose b conds Q old new
  adds_same old new to back h = record { more = h.more; new_is = h.new_is; those = those_same h.more to back h.those }

  pub adds_none : {P : List ℕ → Type 0} (old : List Mapping) → ((facts : List ℕ) → P facts → ⊥) → AddsThose b conds P old old
  unfolding IsStrictlySortedBy
  adds_none {P} old none = record {
    more = [];
    new_is = sym (append-nil old);
    those = record {
      rising = tt;
      sound = All-nil (IsThat b conds P);
      complete = λ facts p. absurd (none facts p);
    };
  }

  pub adds_one : {P : List ℕ → Type 0} (old new : List Mapping) (it : Mapping) → new ≡ old ++ it ∷ [] → P it.facts →
      ((facts : List ℕ) → P facts → facts ≡ it.facts) → IsUndecided b.known (map (terms_at b) it.facts) conds it.undecided → AddsThose b conds P old new
  unfolding IsStrictlySortedBy
  adds_one {P} old new it pushed holds only first = record {
    more = it ∷ [];
    new_is = pushed;
    those = record {
      rising = (tt, tt);
      sound = All-cons (IsThat b conds P) it [] (record { holds = holds; undecided = first }) (All-nil (IsThat b conds P));
      complete = λ facts p. subst (Contains (it.facts ∷ [])) (sym (only facts p)) (Contains-push [] it.facts);
    };
  }

  -- each of the first is less than each of the second
  those_append : {P Q R : List ℕ → Type 0} (first second : List Mapping) → ((xs ys : List ℕ) → P xs → Q ys → slice_cmp nat_cmp xs ys ≡ Less) →
      ((facts : List ℕ) → P facts → R facts) → ((facts : List ℕ) → Q facts → R facts) → ((facts : List ℕ) → R facts → P facts ⊎ Q facts) →
      AreThose b conds P first → AreThose b conds Q second → AreThose b conds R (first ++ second)
  those_append {P} {Q} {R} first second less left right cases p q = record {
    rising = subst (IsStrictlySortedBy (slice_cmp nat_cmp)) (sym (map-append (λ it. it.facts) first second))
        (rising_append (slice_cmp nat_cmp) (map (λ it. it.facts) first) (map (λ it. it.facts) second) p.rising q.rising
        (All-map (λ xs. All (λ ys. slice_cmp nat_cmp xs ys ≡ Less) (map (λ it. it.facts) second)) (λ it. it.facts) first
        (All-weaker (IsThat b conds P) (λ it. All (λ ys. slice_cmp nat_cmp it.facts ys ≡ Less) (map (λ it. it.facts) second))
        (λ it that.
        All-map (λ ys. slice_cmp nat_cmp it.facts ys ≡ Less) (λ it. it.facts) second
        (All-weaker (IsThat b conds Q) (λ other. slice_cmp nat_cmp it.facts other.facts ≡ Less)
        (λ other those. less it.facts other.facts that.holds those.holds) second q.sound))
        first p.sound)));
    sound = All-append (IsThat b conds R) first second
        (All-weaker (IsThat b conds P) (IsThat b conds R) (λ it that. record { holds = left it.facts that.holds; undecided = that.undecided }) first p.sound)
        (All-weaker (IsThat b conds Q) (IsThat b conds R) (λ it that. record { holds = right it.facts that.holds; undecided = that.undecided }) second q.sound);
    complete = λ facts r.
        subst (λ all. Contains all facts) (sym (map-append (λ it. it.facts) first second))
        (elim (cases facts r) [
          | inl h ↦ Contains-append_left (map (λ it. it.facts) first) (map (λ it. it.facts) second) facts (p.complete facts h)
          | inr h ↦ Contains-append_right (map (λ it. it.facts) first) (map (λ it. it.facts) second) facts (q.complete facts h)
        ]);
  }

  adds_append : {P Q R : List ℕ → Type 0} (old mid new : List Mapping) → ((xs ys : List ℕ) → P xs → Q ys → slice_cmp nat_cmp xs ys ≡ Less) →
      ((facts : List ℕ) → P facts → R facts) → ((facts : List ℕ) → Q facts → R facts) → ((facts : List ℕ) → R facts → P facts ⊎ Q facts) →
      AddsThose b conds P old mid → AddsThose b conds Q mid new → AddsThose b conds R old new
  adds_append old mid new less left right cases p q = record {
    more = p.more ++ q.more;
    new_is = q.new_is ∙ (ap (λ xs. xs ++ q.more) p.new_is ∙ append_assoc old p.more q.more);
    those = those_append p.more q.more less left right cases p.those q.those;
  }

-- ---- the numbers of a place

-- those before one, of all from a on
range_front : (before after : List ℕ) (a k n : ℕ) → range_with_len a k ≡ before ++ n ∷ after →
    (n ≡ a + length before) × (before ≡ range_with_len a (length before))
range_front [] after a zero n is = cc
range_front [] after a (suc k) n is = (let e : a ≡ n = cc in omega (arith, e), refl)
range_front (x ∷ before) after a zero n is = cc
range_front (x ∷ before) after a (suc k) n is =
    let same : a ≡ x = cc in
    let left : range_with_len (a + 1) k ≡ before ++ n ∷ after = cc in
    let h = range_front before after (a + 1) k n left in
    let number = h.0 in (
      omega (arith, number),
      ap (λ y. y ∷ before) (sym same) ∙ ap (λ ys. a ∷ ys) h.1,
    )

in_range : (a k m : ℕ) → a ≤ m → m < a + k → Contains (range_with_len a k) m
in_range a k m from below =
    let inside : m - a < k = omega arith in
    let number : a + (m - a) ≡ m = omega arith in (
      m - a,
      subst (λ n. m - a < n) (sym (length-range_with_len a k)) inside,
      get_or-range_with_len a k (m - a) m inside ∙ number,
    )

range_in : (a k m : ℕ) → Contains (range_with_len a k) m → m < a + k
range_in a k m (i, below, is) =
    let inside : i < k = subst (λ n. i < n) (length-range_with_len a k) below in
    let e : a + i ≡ m = sym (get_or-range_with_len a k i m inside) ∙ is in
    omega (arith, inside, e)

-- of all numbers the lesser ones stand before one
pub earlier_in : (before after : List ℕ) (k n m : ℕ) → before ++ n ∷ after ≡ range_with_len 0 k → m < n → Contains before m
earlier_in before after k n m is less =
    let h = range_front before after 0 k n (sym is) in
    let number = h.0 in
    subst (λ xs. Contains xs m) (sym h.1) (in_range 0 (length before) m (omega arith) (omega (arith, number, less)))

pub every_rising : (k : ℕ) → AreRising (range_with_len 0 k)
every_rising k before after n m is has =
    let h = range_front before after 0 k n is in
    let number = h.0 in
    let below = range_in 0 (length before) m (subst (λ xs. Contains xs m) h.1 has) in
    omega (arith, number, below)

pub rising_before : (numbers : List ℕ) (n : ℕ) → AreRising (numbers ++ n ∷ []) → AreRising numbers
rising_before numbers n rising before after k m is has =
    rising before (after ++ n ∷ []) k m (ap (λ xs. xs ++ n ∷ []) is ∙ append_assoc before (k ∷ after) (n ∷ [])) has

pub needless : (r : Bool) → (IsTrue (not r) → ⊥) → IsTrue r
needless true h = refl
needless false h = absurd (h refl)

-- ---- what is known as a walk goes on

pub one_more : (xs : List ℕ) (i n : ℕ) → n ≡ get_or xs i 0 → i < length xs → take (i + 1) xs ≡ take i xs ++ n ∷ []
one_more xs i n is below = take_more xs i 0 below ∙ ap (λ m. take i xs ++ m ∷ []) (sym is)

pub parted : (xs : List ℕ) (i n : ℕ) → n ≡ get_or xs i 0 → i < length xs → xs ≡ take i xs ++ n ∷ drop (suc i) xs
parted [] i n is below = absurd (omega arith)
parted (x ∷ xs) zero n is below = ap (λ y. y ∷ xs) (sym is)
parted (x ∷ xs) (suc i) n is below = ap (λ ys. x ∷ ys) (parted xs i n is (omega arith))

pub chosen_more : (before chosen : List ℕ) (place n : ℕ) → place < length chosen → take place chosen ≡ before →
    take (place + 1) (set chosen place n) ≡ before ++ n ∷ []
chosen_more before chosen place n below same = take_more_set chosen place n below ∙ ap (λ xs. xs ++ n ∷ []) same

pub fronts_same : (xs ys : List ℕ) (p : ℕ) → take (p + 1) xs ≡ take (p + 1) ys → take p xs ≡ take p ys
fronts_same xs ys p same = sym (take-take p (p + 1) xs (omega arith)) ∙ (ap (take p) same ∙ take-take p (p + 1) ys (omega arith))

-- those that were tried are among the ones so far
pub tried_on : (tried numbers more : List ℕ) (n : ℕ) → more ≡ numbers ++ n ∷ [] → All (Contains numbers) tried → All (Contains more) tried
tried_on tried numbers more n is h =
    All-weaker (Contains numbers) (Contains more) (λ m has. subst (λ xs. Contains xs m) (sym is) (Contains-append_left numbers (n ∷ []) m has)) tried h

pub tried_more : (tried new numbers more : List ℕ) (n : ℕ) → more ≡ numbers ++ n ∷ [] → All (Contains (tried ++ n ∷ [])) new →
    All (Contains numbers) tried → All (Contains more) new
tried_more tried new numbers more n is grown h =
    All-weaker (Contains (tried ++ n ∷ [])) (Contains more)
    (λ m has.
    subst (λ xs. Contains xs m) (sym is)
    (elim (Contains-append_cases tried (n ∷ []) m has) [
      | inl old ↦ Contains-append_left numbers (n ∷ []) m (All-contains (Contains numbers) tried m h old)
      | inr new ↦ Contains-append_right numbers (n ∷ []) m new
    ]))
    new grown

pub visited_on : {S : Type 0} (visited : List ℕ → List ℕ → S → S → Type 0) (whole from numbers more : List ℕ) (n : ℕ) (s t : S) → whole ≡ from →
    more ≡ numbers ++ n ∷ [] → visited from (numbers ++ n ∷ []) s t → visited whole more s t
visited_on visited whole from numbers more n s t split grows h =
    subst (λ xs. visited whole xs s t) (sym grows) (subst (λ xs. visited xs (numbers ++ n ∷ []) s t) (sym split) h)

-- ---- the facts that complete the chosen ones

module _ (b : Branch) (side : Side) (part : Part) (wanted : Wanted) where
  -- no table is left
  pub last_completes : (chosen : List ℕ) → All (Under (IsWanted b.known wanted) (map (terms_at b) chosen)) part.conds →
      Completes b side part wanted [] chosen chosen
  last_completes chosen meets = record { rest = []; facts_are = sym (append-nil chosen); facts_of = tt; meets = meets }

  nothing_left : (rest : List ℕ) → IsMapping b side [] rest → rest ≡ []
  nothing_left [] h = refl
  nothing_left (n ∷ rest) h = absurd h

  pub completes_last : (chosen facts : List ℕ) → Completes b side part wanted [] chosen facts → facts ≡ chosen
  completes_last chosen facts h = h.facts_are ∙ (ap (λ xs. chosen ++ xs) (nothing_left h.rest h.facts_of) ∙ append-nil chosen)

  pub meets_last : (chosen facts : List ℕ) → Completes b side part wanted [] chosen facts →
      All (Under (IsWanted b.known wanted) (map (terms_at b) chosen)) part.conds
  meets_last chosen facts h = subst (λ xs. All (Under (IsWanted b.known wanted) (map (terms_at b) xs)) part.conds) (completes_last chosen facts h) h.meets

  -- where an atom fails already, nothing completes
  pub pruned : (from chosen : List ℕ) → Any (FailsAt b.known wanted (map (terms_at b) chosen)) part.conds → (facts : List ℕ) →
      Completes b side part wanted from chosen facts → ⊥
  pruned from chosen (k, atom, below, is, fails) facts h =
      let rows : map (terms_at b) facts ≡ map (terms_at b) chosen ++ map (terms_at b) h.rest =
      ap (map (terms_at b)) h.facts_are ∙ map-append (terms_at b) chosen h.rest in
      fails_on (IsWanted b.known wanted) (map (terms_at b) chosen) (map (terms_at b) h.rest) atom fails.fails
      (subst (λ rows. Under (IsWanted b.known wanted) rows atom) rows
      (All-contains (Under (IsWanted b.known wanted) (map (terms_at b) facts)) part.conds atom h.meets (k, below, is)))

  -- all facts are offered
  begins_in_every : (from rest : List ℕ) → IsMapping b side from rest → BeginsIn (every b) rest
  begins_in_every from [] of = tt
  begins_in_every [] (n ∷ rest) of = absurd of
  begins_in_every (table ∷ from) (n ∷ rest) of =
      let below : n < length b.facts = slice_get_within b.facts n (of.0).fact (of.0).there in in_range 0 (length b.facts) n (omega arith) (omega arith)

  pub by_every : (from chosen facts : List ℕ) → Completes b side part wanted from chosen facts → CompletesBy b side part wanted from chosen (every b) facts
  by_every from chosen facts h = record { completes = h; first = begins_in_every from h.rest h.facts_of }

  -- no table is left
  pub by_last : (chosen numbers facts : List ℕ) → CompletesBy b side part wanted [] chosen numbers facts → (others : List ℕ) →
      CompletesBy b side part wanted [] chosen others facts
  by_last chosen numbers facts h others = record { completes = h.completes; first = at h.completes.rest h.completes.facts_of }
    where
      at : (rest : List ℕ) → IsMapping b side [] rest → BeginsIn others rest
      at [] of = tt
      at (n ∷ rest) of = absurd of

  -- a table is left: one of its facts is chosen
  module _ (table : ℕ) (from chosen : List ℕ) where
    pub next_completes : (number : ℕ) (facts : List ℕ) → IsFactOf b side table number → Completes b side part wanted from (chosen ++ number ∷ []) facts →
        Completes b side part wanted (table ∷ from) chosen facts
    next_completes number facts fact h = record {
      rest = number ∷ h.rest;
      facts_are = h.facts_are ∙ append_assoc chosen (number ∷ []) h.rest;
      facts_of = (fact, h.facts_of);
      meets = h.meets;
    }

    abbrev By : List ℕ → List ℕ → Type 0
    By = CompletesBy b side part wanted (table ∷ from) chosen

    pub by_none : (facts : List ℕ) → By [] facts → ⊥
    by_none facts h = at h.completes.rest h.completes.facts_of h.first
      where
        at : (rest : List ℕ) → IsMapping b side (table ∷ from) rest → BeginsIn [] rest → ⊥
        at [] of first = of
        at (n ∷ rest) of (i, below, is) = absurd (omega (arith, below))

    pub by_more : (numbers : List ℕ) (n : ℕ) (facts : List ℕ) → By numbers facts → By (numbers ++ n ∷ []) facts
    by_more numbers n facts h = record { completes = h.completes; first = at h.completes.rest h.first }
      where
        at : (rest : List ℕ) → BeginsIn numbers rest → BeginsIn (numbers ++ n ∷ []) rest
        at [] first = tt
        at (m ∷ rest) first = Contains-append_left numbers (n ∷ []) m first

    pub by_one : (numbers : List ℕ) (n : ℕ) (facts : List ℕ) → Contains numbers n → IsFactOf b side table n →
        Completes b side part wanted from (chosen ++ n ∷ []) facts → By numbers facts
    unfolding next_completes
    by_one numbers n facts has fact h = record { completes = next_completes n facts fact h; first = has }

    pub by_here : (numbers : List ℕ) (n : ℕ) → IsFactOf b side table n → (facts : List ℕ) →
        CompletesBy b side part wanted from (chosen ++ n ∷ []) (every b) facts → By (numbers ++ n ∷ []) facts
    by_here numbers n fact facts h = by_one (numbers ++ n ∷ []) n facts (Contains-push numbers n) fact h.completes

    -- those so far, or the fact is one of the table
    pub by_cases : (numbers : List ℕ) (n : ℕ) (facts : List ℕ) → By (numbers ++ n ∷ []) facts →
        By numbers facts ⊎ (IsFactOf b side table n × CompletesBy b side part wanted from (chosen ++ n ∷ []) (every b) facts)
    by_cases numbers n facts h = at h.completes.rest h.completes.facts_are h.completes.facts_of h.first
      where
        at : (rest : List ℕ) → facts ≡ chosen ++ rest → IsMapping b side (table ∷ from) rest → BeginsIn (numbers ++ n ∷ []) rest →
            By numbers facts ⊎ (IsFactOf b side table n × CompletesBy b side part wanted from (chosen ++ n ∷ []) (every b) facts)
        at [] are of first = absurd of
        at (m ∷ rest) are of first = elim (Contains-push_cases numbers n m first) [
          | inl before ↦ inl (record { completes = record { rest = m ∷ rest; facts_are = are; facts_of = of; meets = h.completes.meets }; first = before })
          | inr same ↦
              inr (
                subst (IsFactOf b side table) (sym same) of.0,
                by_every from (chosen ++ n ∷ []) facts (
                    record {
                      rest = rest;
                      facts_are = are ∙ (ap (λ k. chosen ++ (k ∷ rest)) (sym same) ∙ sym (append_assoc chosen (n ∷ []) rest));
                      facts_of = of.1;
                      meets = h.completes.meets;
                    }),
              )
        ]

-- ---- what comes of facts

-- A relation that is so of none, and of two kinds together where it is so of each, composes.
module _ {S E : Type 0} (b : Branch) (side : Side) (part : Part) (wanted : Wanted) (R : (List ℕ → Type 0) → S → S → Type 0)
    (nothing : (P : List ℕ → Type 0) (now : S) → ((facts : List ℕ) → P facts → ⊥) → R P now now)
    (together : (P Q T : List ℕ → Type 0) (old now new : S) → ((facts : List ℕ) → P facts → T facts) → ((facts : List ℕ) → Q facts → T facts) →
    ((facts : List ℕ) → T facts → P facts ⊎ Q facts) → R P old now → R Q now new → R T old new) where
  pub composes_by : (stopped : List ℕ → List ℕ → E → Type 0) →
      ((table : ℕ) (rest chosen : List ℕ) (n : ℕ) (stop : E) → IsFactOf b side table n → stopped rest (chosen ++ n ∷ []) stop →
      stopped (table ∷ rest) chosen stop) →
      Composes b side (λ from chosen numbers. numbers ≡ every b) (λ from chosen numbers. R (CompletesBy b side part wanted from chosen numbers)) stopped
  composes_by stopped deeper = record {
    none = λ table rest chosen now. nothing (CompletesBy b side part wanted (table ∷ rest) chosen []) now (by_none b side part wanted table rest chosen);
    other = λ table rest chosen before n old now no h.
        together (CompletesBy b side part wanted (table ∷ rest) chosen before) (λ facts. ⊥)
        (CompletesBy b side part wanted (table ∷ rest) chosen (before ++ n ∷ [])) old now now (by_more b side part wanted table rest chosen before n)
        (λ facts it. absurd it)
        (λ facts it. elim (by_cases b side part wanted table rest chosen before n facts it) [ inl old ↦ inl old | inr here ↦ absurd (no here.0) ]) h
        (nothing (λ facts. ⊥) now (λ facts it. it));
    more = λ table rest chosen before n old now new fact h k.
        together (CompletesBy b side part wanted (table ∷ rest) chosen before) (CompletesBy b side part wanted rest (chosen ++ n ∷ []) (every b))
        (CompletesBy b side part wanted (table ∷ rest) chosen (before ++ n ∷ [])) old now new (by_more b side part wanted table rest chosen before n)
        (by_here b side part wanted table rest chosen before n fact)
        (λ facts it. elim (by_cases b side part wanted table rest chosen before n facts it) [ inl old ↦ inl old | inr here ↦ inr here.1 ]) h k;
    enough = λ table rest chosen numbers old new is h. subst (λ xs. R (CompletesBy b side part wanted (table ∷ rest) chosen xs) old new) is h;
    deeper = deeper;
  }

-- ---- the walk that gathers

module _ (b : Branch) (side : Side) (part : Part) (wanted : Wanted) where
  abbrev From : List ℕ → List ℕ → List ℕ → List ℕ → Type 0
  From = CompletesBy b side part wanted

  less : (table : ℕ) (from chosen before : List ℕ) (n : ℕ) → AreRising (before ++ n ∷ []) → (xs ys : List ℕ) → From (table ∷ from) chosen before xs →
      From from (chosen ++ n ∷ []) (every b) ys → slice_cmp nat_cmp xs ys ≡ Less
  less table from chosen before n rising xs ys p q = at p.completes.rest p.completes.facts_are p.completes.facts_of p.first
    where
      at : (rest : List ℕ) → xs ≡ chosen ++ rest → IsMapping b side (table ∷ from) rest → BeginsIn before rest → slice_cmp nat_cmp xs ys ≡ Less
      at [] are of first = absurd of
      at (m ∷ rest) are of first =
          let right : ys ≡ chosen ++ (n ∷ q.completes.rest) = q.completes.facts_are ∙ append_assoc chosen (n ∷ []) q.completes.rest in
          subst (λ zs. slice_cmp nat_cmp zs ys ≡ Less) (sym are)
          (subst (λ zs. slice_cmp nat_cmp (chosen ++ (m ∷ rest)) zs ≡ Less) (sym right)
          (less_at chosen m n rest q.completes.rest (rising before [] n m refl first)))

  pub gathers_compose : {S E : Type 0} (items : S → List Mapping) (stopped : List ℕ → List ℕ → E → Type 0) →
      ((table : ℕ) (rest chosen : List ℕ) (n : ℕ) (stop : E) → IsFactOf b side table n → stopped rest (chosen ++ n ∷ []) stop →
      stopped (table ∷ rest) chosen stop) →
      Composes {S = S} b side (λ from chosen numbers. numbers ≡ every b)
      (λ from chosen numbers old new. Gathers b side part wanted from chosen numbers (items old) (items new)) stopped
  gathers_compose items stopped deeper = record {
    none = λ table rest chosen now rising. adds_none b part.conds (items now) (by_none b side part wanted table rest chosen);
    other = λ table rest chosen before n old now no h rising.
        adds_same b part.conds (items old) (items now) (by_more b side part wanted table rest chosen before n)
        (λ facts it. elim (by_cases b side part wanted table rest chosen before n facts it) [ inl old ↦ old | inr here ↦ absurd (no here.0) ])
        (h (rising_before before n rising));
    more = λ table rest chosen before n old now new fact h k rising.
        adds_append b part.conds (items old) (items now) (items new) (less table rest chosen before n rising) (by_more b side part wanted table rest chosen before n)
        (by_here b side part wanted table rest chosen before n fact)
        (λ facts it. elim (by_cases b side part wanted table rest chosen before n facts it) [ inl old ↦ inl old | inr here ↦ inr here.1 ])
        (h (rising_before before n rising)) (k (every_rising (length b.facts)));
    enough = λ table rest chosen numbers old new is h. subst (λ xs. Gathers b side part wanted (table ∷ rest) chosen xs (items old) (items new)) is h;
    deeper = deeper;
  }

  -- the chosen facts are the only ones
  pub gathers_one : (chosen numbers : List ℕ) (old new : List Mapping) (it : Mapping) → new ≡ old ++ it ∷ [] → it.facts ≡ chosen →
      All (Under (IsWanted b.known wanted) (map (terms_at b) chosen)) part.conds →
      IsUndecided b.known (map (terms_at b) it.facts) part.conds it.undecided → Gathers b side part wanted [] chosen numbers old new
  gathers_one chosen numbers old new it pushed are meets first rising =
      adds_one b part.conds old new it pushed
      (by_last b side part wanted chosen (every b) it.facts
      (by_every b side part wanted [] chosen it.facts (subst (Completes b side part wanted [] chosen) (sym are) (last_completes b side part wanted chosen meets)))
      numbers)
      (λ facts h. completes_last b side part wanted chosen facts h.completes ∙ sym are) first

  pub gathers_none : (chosen numbers : List ℕ) (old : List Mapping) →
      (All (Under (IsWanted b.known wanted) (map (terms_at b) chosen)) part.conds → ⊥) → Gathers b side part wanted [] chosen numbers old old
  gathers_none chosen numbers old fails rising =
      adds_none b part.conds old (λ facts h. fails (meets_last b side part wanted chosen facts h.completes))

  -- where an atom fails already, nothing is gathered
  pub gathers_spared : {S : Type 0} (items : S → List Mapping) (from chosen : List ℕ) (n : ℕ) (tried : List ℕ) (now : S) → Any (FailsAt b.known wanted (map (terms_at b) chosen)) part.conds →
      IsSpared (λ front numbers. numbers ≡ every b) (λ front numbers old new. Gathers b side part wanted from front numbers (items old) (items new)) chosen n tried now
  gathers_spared items from chosen n tried now fails front before after start split offered tried_in h rising =
      adds_same b part.conds (items start) (items now) (to from) (back from) (h (rising_before before n rising))
    where
      to : (from facts : List ℕ) → From from front before facts → From from front (before ++ n ∷ []) facts
      to [] facts h = by_last b side part wanted front before facts h (before ++ n ∷ [])
      to (table ∷ from) facts h = by_more b side part wanted table from front before n facts h

      back : (from facts : List ℕ) → From from front (before ++ n ∷ []) facts → From from front before facts
      back [] facts h = by_last b side part wanted front (before ++ n ∷ []) facts h before
      back (table ∷ from) facts h = elim (by_cases b side part wanted table from front before n facts h) [
        | inl old ↦ old
        | inr here ↦
            absurd (pruned b side part wanted from (front ++ n ∷ [])
            (subst (λ xs. Any (FailsAt b.known wanted (map (terms_at b) xs)) part.conds) split fails) facts (here.1).completes)
      ]

-- ---- walks from the start

pub are_matches : (b : Branch) (side : Side) (part : Part) (from chosen : List ℕ) (old new : List Mapping) → from ≡ part.from → chosen ≡ [] →
    old ≡ [] → AddsThose b part.conds (Completes b side part Live from chosen) old new → AreMatches b side part new
are_matches b side part from chosen old new whole none empty h =
    subst (AreMatches b side part) (sym (h.new_is ∙ ap (λ xs. xs ++ h.more) empty)) (
    record {
      rising = h.those.rising;
      sound = All-weaker (IsThat b part.conds (Completes b side part Live from chosen)) (IsMatch b side part)
          (λ it that. record { live = live it.facts that.holds; undecided = that.undecided }) h.more h.those.sound;
      complete = λ facts live. h.those.complete facts (mapping facts live);
    })
  where
    live : (facts : List ℕ) → Completes b side part Live from chosen facts → IsLiveMapping b side part facts
    live facts c = record {
      facts_of = subst (IsMapping b side part.from) (sym (c.facts_are ∙ ap (λ xs. xs ++ c.rest) none))
          (subst (λ xs. IsMapping b side xs c.rest) whole c.facts_of);
      live = c.meets;
    }

    mapping : (facts : List ℕ) → IsLiveMapping b side part facts → Completes b side part Live from chosen facts
    mapping facts h = record {
      rest = facts;
      facts_are = sym (ap (λ xs. xs ++ facts) none);
      facts_of = subst (λ xs. IsMapping b side xs facts) (sym whole) h.facts_of;
      meets = h.live;
    }

-- what is gathered over all facts; nothing, where an atom fails at once
module _ (b : Branch) (side : Side) (part : Part) where
  pub gathers_all : (old new : List Mapping) → old ≡ [] → Gathers b side part Live part.from [] (every b) old new → AreMatches b side part new
  gathers_all old new empty h =
      are_matches b side part part.from [] old new refl refl empty
      (adds_same b part.conds old new (λ facts it. it.completes) (by_every b side part Live part.from []) (h (every_rising (length b.facts))))

  pub gathers_nothing : (new : List Mapping) → new ≡ [] → Any (FailsAt b.known Live []) part.conds → AreMatches b side part new
  gathers_nothing new empty fails =
      subst (AreMatches b side part) (sym empty)
      (are_matches b side part part.from [] [] [] refl refl refl (adds_none b part.conds [] (pruned b side part Live part.from [] fails)))

pub is_answered : (b : Branch) (side : Side) (part : Part) (row : List (Option Term)) (from chosen : List ℕ) → from ≡ part.from → chosen ≡ [] →
    IsAnsweredFrom b side part Shown row from chosen → IsAnswered b side part row
is_answered b side part row from chosen whole none h = record {
  facts = h.facts;
  facts_of = subst (IsMapping b side part.from) (sym (h.completes.facts_are ∙ ap (λ xs. xs ++ h.completes.rest) none))
      (subst (λ xs. IsMapping b side xs h.completes.rest) whole h.completes.facts_of);
  shown = h.completes.meets;
  head = h.head;
}

pub answered_from : (b : Branch) (side : Side) (part : Part) (row : List (Option Term)) (from chosen : List ℕ) → from ≡ part.from → chosen ≡ [] →
    IsAnswered b side part row → IsAnsweredFrom b side part Shown row from chosen
answered_from b side part row from chosen whole none h = record {
  facts = h.facts;
  completes = record {
    rest = h.facts;
    facts_are = sym (ap (λ xs. xs ++ h.facts) none);
    facts_of = subst (λ xs. IsMapping b side xs h.facts) (sym whole) h.facts_of;
    meets = h.shown;
  };
  head = h.head;
}

-- one fact more is chosen
pub one_chosen : (before items all : List ℕ) (number : ℕ) → all ≡ items ++ number ∷ [] → items ≡ before → all ≡ before ++ number ∷ []
one_chosen before items all number e same = e ∙ ap (λ xs. xs ++ number ∷ []) same
