-- Walks over the facts of a side, one for each table of a part: what they come to from the facts
-- that are chosen so far.
use Rattle.std.specs.Prelude.{◌≡◌, ◌≢◌, ◌⊎◌, ℕ, ◌+◌, ◌<◌, ◌≤◌, List, [], ◌∷◌, ◌++◌, All, Any, Contains, Option, Some, None, length, map, max, min}
use Rattle.std.specs.Prelude.{option_map, slice_get, unwrap_or}
use Rattle.std.specs.List.{AllZip, range_with_len}
use Rattle.std.specs.List.Sorted.{IsStrictlySortedBy}
use Rattle.std.specs.Ordering.{nat_cmp}
use Rattle.std.specs.Cmp.Lexicographic.{slice_cmp}
use Rattle.ba_model.specs.declared.query.Atom.{Atom}
use Rattle.ba_model.specs.declared.query.Op.{Op}
use Rattle.ba_model.specs.declared.query.Operand.{Operand}
use Rattle.ba_model.specs.declared.query.Operand.TheVariants.{Col, Val, Param, Var}
use Rattle.ba_model.specs.declared.query.Part.{Part}
use Rattle.ba_facts.specs.Alike.{AreAlike}
use Rattle.ba_facts.specs.Known.{Known}
use Rattle.ba_facts.specs.Matches.{AreTheSame, GivesAtom, HeadIs, IsFactOf, IsLiveOf, IsMapping, IsUndecided, Under, round_of, row_of, term_of, terms_at}
use Rattle.ba_facts.specs.Shown.{ShowsOf}
use Rattle.ba_facts.specs.declared.branch.Branch.{Branch}
use Rattle.ba_facts.specs.declared.matches.answered.GivenRow.{GivenRow}
use Rattle.ba_facts.specs.declared.walk.Walk.{Walk}
use Rattle.ba_facts.specs.declared.walk.Wanted.{Wanted}
use Rattle.ba_facts.specs.declared.walk.Wanted.TheVariants.{Live, Shown}
use Rattle.ba_facts.specs.declared.term.Mapping.{Mapping}
use Rattle.ba_facts.specs.declared.term.Side.{Side}
use Rattle.ba_facts.specs.declared.term.Term.{Term}
use Rattle.ba_facts.specs.declared.term.TermAtom.{TermAtom}
use Rattle.ba_facts.specs.declared.walk.visit.Offered.{Offered}
use Rattle.ba_facts.specs.declared.walk.visit.Offered.TheVariants.{Every, These}

-- ---- the facts of a place

-- the numbers of all facts; those that are offered
abbrev pub every : Branch → List ℕ
every b = range_with_len 0 (length b.facts)

abbrev pub listed : Offered → List ℕ
listed (Every count) = range_with_len 0 count
listed (These numbers) = numbers.now

-- Of which facts a place is offered, and of what came of those of these numbers at it: the last of
-- the chosen facts needn't be tried, since what came of those before it came of it too.
abbrev pub IsSpared : {S : Type 0} → (List ℕ → List ℕ → Type 0) →
    (List ℕ → List ℕ → S → S → Type 0) → List ℕ → ℕ → List ℕ → S → Type 0
IsSpared {S} offers visited chosen number tried now =
    (front before after : List ℕ) (start : S) → chosen ≡ front ++ number ∷ [] →
    offers front (before ++ number ∷ after) → All (Contains before) tried →
    visited front before start now → visited front (before ++ number ∷ []) start now

-- What comes of facts comes of them together: of none nothing comes, what is no fact of the table
-- adds nothing, and a fact adds what comes of those that follow it; what a place is offered is
-- enough; and a walk ends at a place for what ends it behind.
pub record Composes {S E : Type 0} (b : Branch) (side : Side)
    (offers : List ℕ → List ℕ → List ℕ → Type 0)
    (visited : List ℕ → List ℕ → List ℕ → S → S → Type 0)
    (stopped : List ℕ → List ℕ → E → Type 0) : Type 0 where
  pub none : (table : ℕ) (rest chosen : List ℕ) (now : S) → visited (table ∷ rest) chosen [] now now
  pub other : (table : ℕ) (rest chosen before : List ℕ) (n : ℕ) (old now : S) →
      ¬ (IsFactOf b side table n) → visited (table ∷ rest) chosen before old now →
      visited (table ∷ rest) chosen (before ++ n ∷ []) old now
  pub more : (table : ℕ) (rest chosen before : List ℕ) (n : ℕ) (old now new : S) →
      IsFactOf b side table n → visited (table ∷ rest) chosen before old now →
      visited rest (chosen ++ n ∷ []) (every b) now new →
      visited (table ∷ rest) chosen (before ++ n ∷ []) old new
  pub enough : (table : ℕ) (rest chosen numbers : List ℕ) (old new : S) →
      offers (table ∷ rest) chosen numbers → visited (table ∷ rest) chosen numbers old new →
      visited (table ∷ rest) chosen (every b) old new
  pub deeper : (table : ℕ) (rest chosen : List ℕ) (n : ℕ) (stop : E) → IsFactOf b side table n →
      stopped rest (chosen ++ n ∷ []) stop → stopped (table ∷ rest) chosen stop

-- the comparison is what is wanted: live, or shown
abbrev pub IsWanted : Known → Wanted → Op → Term → Term → Type 0
IsWanted k Live op a b = IsLiveOf k op a b
IsWanted k Shown op a b = ShowsOf k op a b

-- how many places have to be chosen until the operand has its term
abbrev pub places_of : Operand → ℕ
places_of (Col place column) = place + 1
places_of (Val v) = 0
places_of (Param n) = 0
places_of (Var n) = 0

-- so many places have to be chosen until both sides have their terms
abbrev pub IsDue : ℕ → Atom → Type 0
IsDue places atom = max (places_of atom.left) (places_of atom.right) ≡ places

-- both terms are there since the last place was chosen, and the atom isn't what is wanted
pub record FailsAt (k : Known) (wanted : Wanted) (rows : List (List Term))
    (atom : Atom) : Type 0 where
  pub due : IsDue (length rows) atom
  pub fails : Under (λ op a b. ¬ (IsWanted k wanted op a b)) rows atom

-- the chosen facts and one of each of these tables on the side, under which each atom of the part
-- is what is wanted
pub record Completes (b : Branch) (side : Side) (part : Part) (wanted : Wanted)
    (from chosen facts : List ℕ) : Type 0 where
  pub rest : List ℕ
  pub facts_are : facts ≡ chosen ++ rest
  pub facts_of : IsMapping b side from rest
  pub meets : All (Under (IsWanted b.known wanted) (map (terms_at b) facts)) part.conds

-- some such facts give a head that is the same as the row
pub record IsAnsweredFrom (b : Branch) (side : Side) (part : Part) (wanted : Wanted)
    (row : List (Option Term)) (from chosen : List ℕ) : Type 0 where
  pub facts : List ℕ
  pub completes : Completes b side part wanted from chosen facts
  pub head : AllZip (AreTheSame b.known) (row_of b facts part.head) row

-- the facts of the mapping are of P, and it has the first atom that isn't shown of them
pub record IsThat (b : Branch) (conds : List Atom) (P : List ℕ → Type 0)
    (it : Mapping) : Type 0 where
  pub holds : P it.facts
  pub undecided : IsUndecided b.known (map (terms_at b) it.facts) conds it.undecided

-- exactly those of P, rising
pub record AreThose (b : Branch) (conds : List Atom) (P : List ℕ → Type 0)
    (found : List Mapping) : Type 0 where
  pub rising : IsStrictlySortedBy (slice_cmp nat_cmp) (map (λ it. it.facts) found)
  pub sound : All (IsThat b conds P) found
  pub complete : (facts : List ℕ) → P facts → Contains (map (λ it. it.facts) found) facts

-- the new list is the old one, and then exactly those of P, rising
pub record AddsThose (b : Branch) (conds : List Atom) (P : List ℕ → Type 0)
    (old new : List Mapping) : Type 0 where
  pub more : List Mapping
  pub new_is : new ≡ old ++ more
  pub those : AreThose b conds P more

-- the first of the further facts, if there is one, is one of these
abbrev pub BeginsIn : List ℕ → List ℕ → Type 0
BeginsIn numbers [] = Unit {0}
BeginsIn numbers (n ∷ rest) = Contains numbers n

-- such facts of which the first further one is one of these
pub record CompletesBy (b : Branch) (side : Side) (part : Part) (wanted : Wanted)
    (from chosen numbers facts : List ℕ) : Type 0 where
  pub completes : Completes b side part wanted from chosen facts
  pub first : BeginsIn numbers completes.rest

-- ---- what an atom or a head is over the chosen facts of a walk

abbrev pub rows_in : Walk → List ℕ → List (List Term)
rows_in w chosen = map (terms_at w.branch.now) chosen

abbrev pub term_in : Walk → List ℕ → Operand → Option Term
term_in w chosen operand = term_of (rows_in w chosen) operand

-- the terms of a row that is given as operands over facts
abbrev pub row_in : Walk → GivenRow → List (Option Term)
row_in w row = row_of w.branch.now row.facts.now row.operands.now

-- the comparison, or the atom, is what is wanted; or it fails since the last fact was chosen
abbrev pub IsWantedIn : Walk → Op → Term → Term → Type 0
IsWantedIn w op a b = IsWanted w.branch.now.known w.wanted op a b

abbrev pub IsMet : Walk → List ℕ → Atom → Type 0
IsMet w chosen atom = Under (IsWanted w.branch.now.known w.wanted) (rows_in w chosen) atom

abbrev pub Fails : Walk → List ℕ → Atom → Type 0
Fails w chosen atom = FailsAt w.branch.now.known w.wanted (rows_in w chosen) atom

-- each atom of the part is; some fails
abbrev pub AreMet : Walk → List ℕ → Type 0
AreMet w chosen = All (IsMet w chosen) w.part.now.conds

abbrev pub IsHopeless : Walk → List ℕ → Type 0
IsHopeless w chosen = Any (Fails w chosen) w.part.now.conds

-- ---- what a walk comes to

-- no such facts give a head that is the same as the row
abbrev pub NoneAnswers : Branch → Side → Part → Wanted → List (Option Term) →
    List ℕ → List ℕ → List ℕ → Type 0
NoneAnswers b side part wanted row from chosen numbers =
    (facts : List ℕ) → CompletesBy b side part wanted from chosen numbers facts →
    ¬ (AllZip (AreTheSame b.known) (row_of b facts part.head) row)

-- each number is more than those before it
abbrev pub AreRising : List ℕ → Type 0
AreRising numbers = (before after : List ℕ) (n m : ℕ) → numbers ≡ before ++ n ∷ after →
    Contains before m → m < n

-- where the numbers rise, these mappings are added
abbrev pub Gathers : Branch → Side → Part → Wanted → List ℕ → List ℕ → List ℕ →
    List Mapping → List Mapping → Type 0
Gathers b side part wanted from chosen numbers old new =
    AreRising numbers →
    AddsThose b part.conds (CompletesBy b side part wanted from chosen numbers) old new

-- ---- what can't come any more

-- the term is there, and isn't the same as the other
abbrev pub IsOther : Known → Option Term → Option Term → Type 0
IsOther k own other = (own ≢ None) × ¬ (AreTheSame k own other)

-- whatever facts follow the chosen ones, the operands don't stand for terms that are the same as
-- the row's
abbrev pub IsNoFront : Branch → List Operand → List (Option Term) → List ℕ → Type 0
IsNoFront b operands row chosen = (rest : List ℕ) →
    ¬ (AllZip (AreTheSame b.known) (row_of b (chosen ++ rest) operands) row)

-- whatever facts follow the chosen ones, some atom isn't what is wanted, or the head isn't the same
-- as the row, where there is one
abbrev pub IsLost : Branch → Part → Wanted → Option (List Term) → List ℕ → Type 0
IsLost b part wanted row chosen =
    Any (FailsAt b.known wanted (map (terms_at b) chosen)) part.conds ⊎
    ((rest : List ℕ) → ¬ (HeadIs b part (chosen ++ rest) row))

-- so it is of a row that is given as its terms
abbrev pub CantGive : Walk → List (Option Term) → List ℕ → Type 0
CantGive w row chosen = IsHopeless w chosen ⊎ IsNoFront w.branch.now w.part.now.head row chosen

-- the operand stands for this very term, or for none yet
abbrev pub MayStandFor : List (List Term) → Operand → Term → Type 0
MayStandFor rows operand term = (term_of rows operand ≡ None) ⊎ (term_of rows operand ≡ Some term)

-- each side may stand for that of the atom
pub record MayGive (rows : List (List Term)) (atom : TermAtom) (cond : Atom) : Type 0 where
  pub op : cond.op ≡ atom.op
  pub left : MayStandFor rows cond.left atom.left
  pub right : MayStandFor rows cond.right atom.right

-- ---- the least round

-- over the facts the head is the same as the row, where there is one, and the atom is one of the
-- part's
pub record HasAtom (b : Branch) (part : Part) (row : Option (List Term)) (atom : TermAtom)
    (facts : List ℕ) : Type 0 where
  pub head : HeadIs b part facts row
  pub stands : Any (GivesAtom (map (terms_at b) facts) atom) part.conds

-- the chosen facts and one of each of these tables, as above, of which the atom is one of the
-- part's
pub record HasAtomFrom (b : Branch) (side : Side) (part : Part) (wanted : Wanted)
    (row : Option (List Term)) (atom : TermAtom)
    (from chosen facts : List ℕ) : Type 0 where
  pub completes : Completes b side part wanted from chosen facts
  pub has : HasAtom b part row atom facts

-- of them, those of which the first further fact is one of these
abbrev pub HasAtomBy : Branch → Side → Part → Wanted → Option (List Term) → TermAtom →
    List ℕ → List ℕ → List ℕ → List ℕ → Type 0
HasAtomBy b side part wanted row atom from chosen numbers facts =
    CompletesBy b side part wanted from chosen numbers facts × HasAtom b part row atom facts

-- there is a round, at most this one
abbrev pub IsAtMostRound : Option ℕ → ℕ → Type 0
IsAtMostRound None most = ⊥
IsAtMostRound (Some round) most = round ≤ most

-- it is the round of some facts that are P
abbrev pub IsRoundOf : Branch → (List ℕ → Type 0) → Option ℕ → Type 0
IsRoundOf b P None = ⊥
IsRoundOf b P (Some round) = (facts : List ℕ) × P facts × (round_of b facts ≡ round)

-- the lesser of the old round and of the least round of what is P
pub record Lowers (b : Branch) (P : List ℕ → Type 0) (old new : Option ℕ) : Type 0 where
  pub from : (new ≡ old) ⊎ IsRoundOf b P new
  pub keeps : (round : ℕ) → old ≡ Some round → IsAtMostRound new round
  pub reaches : (facts : List ℕ) → P facts → IsAtMostRound new (round_of b facts)

-- the lesser of the two, where the first is there
abbrev pub lesser : Option ℕ → ℕ → Option ℕ
lesser None m = Some m
lesser (Some n) m = Some (min n m)

-- ---- facts that needn't be tried

-- the round of the fact of this number, or 0
abbrev pub round_at : Branch → ℕ → ℕ
round_at b n = unwrap_or (option_map (λ fact. fact.round) (slice_get b.facts n)) 0

-- the other fact does as well as that of the number: it is alike to it, and of no later a round
pub record DoesAsWell (b : Branch) (number other : ℕ) : Type 0 where
  pub no_later : round_at b other ≤ round_at b number
  pub alike : AreAlike b number other

-- an earlier one does
pub record HasEarlier (b : Branch) (number : ℕ) : Type 0 where
  pub other : ℕ
  pub below : other < number
  pub as_well : DoesAsWell b number other

-- one of the fact's terms is the atom's left or right
abbrev pub HasEither : Branch → TermAtom → ℕ → Type 0
HasEither b atom n = Any (λ own. own ≡ atom.left) (terms_at b n)
    ⊎ Any (λ own. own ≡ atom.right) (terms_at b n)

-- the fact is of no round before this one, where there is one
abbrev pub IsLate : Branch → Option ℕ → ℕ → Type 0
IsLate b None n = ⊥
IsLate b (Some round) n = round ≤ round_at b n

-- whatever facts follow the chosen ones, some atom isn't what is wanted, the head isn't the same as
-- the row, where there is one, or the atom is none of the part's
abbrev pub IsPastHope : Walk → Option (List Term) → TermAtom → List ℕ → Type 0
IsPastHope w row atom chosen =
    IsHopeless w chosen ⊎
    (((rest : List ℕ) → ¬ (HeadIs w.branch.now w.part.now (chosen ++ rest) row)) ⊎
    ¬ (Any (MayGive (rows_in w chosen) atom) w.part.now.conds))

-- an earlier fact does as well as this one, which has neither term of the atom
abbrev pub IsRepeated : Branch → TermAtom → ℕ → Type 0
IsRepeated b atom n = HasEarlier b n × ¬ (HasEither b atom n)
