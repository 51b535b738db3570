-- The full condition of a pattern, and what one pass leaves of it.
use Rattle.std.specs.Prelude.{◌≡◌, ◌≢◌, ◌≤◌, ℤ, Bool, true, replicate, ◌<ℤ◌, List, [], ◌∷◌, ◌++◌, All, length, map, Option, Some, None}
use Rattle.std.specs.List.{AllZip, flat_map, range_with_len, zip}
use Rattle.ba_model.specs.Fit.{AtomFits, kind_of, kind_of_value, kinds_of}
use Rattle.ba_model.specs.declared.query.Atom.{Atom}
use Rattle.ba_model.specs.declared.query.Op.{Op}
use Rattle.ba_model.specs.declared.query.Op.TheVariants.{Eq, Ne, Lt}
use Rattle.ba_model.specs.declared.query.Operand.{Operand}
use Rattle.ba_model.specs.declared.query.Operand.TheVariants.{Col, Val, Param, Var}
use Rattle.ba_model.specs.declared.schema.Kind.{Kind}
use Rattle.ba_model.specs.declared.value.Value.{Value}
use Rattle.ba_model.specs.declared.value.Value.TheVariants.{Null, Int}
use Rattle.ba_kernel.specs.Courses.{ProblemFits}
use Rattle.ba_kernel.specs.Problems.{param_is}
use Rattle.ba_kernel.specs.declared.problem.Problem.{Problem}
use Rattle.ba_kernel.specs.declared.step.Step.{Step}
use Rattle.ba_general.specs.Dropping.{Drops, DropsRun, IsAccepted}
use Rattle.ba_general.specs.declared.condition.Group.{Group}
use Rattle.ba_general.specs.declared.condition.Group.TheVariants.{Fixed, Less, Apart, Equal}
use Rattle.ba_general.specs.declared.dropping.Ends.{Ends}
use Rattle.ba_general.specs.declared.pattern.Pattern.{Pattern}
use Rattle.ba_general.specs.declared.pattern.Valued.{Valued}

-- ---- the operands and their values: the variables, then the parameters

abbrev pub valued : Operand × Value → Valued
valued (operand, v) = record { operand = operand; value = v }

abbrev pub variables : List Value → List Valued
variables values = map (λ two. valued (Var two.0, two.1)) (zip (range_with_len 0 (length values)) values)

abbrev pub parameters : List Value → List Valued
parameters values = map (λ two. valued (Param two.0, two.1)) (zip (range_with_len 0 (length values)) values)

abbrev pub operands_with : List Value → List Value → List Valued
operands_with values params = variables values ++ parameters params

-- the parameters' values, which the problem of a question assumes one by one
pub record HasParams (p : Problem) (params : List Value) : Type 0 where
  pub assumed : p.assumed ≡ map param_is (zip (range_with_len 0 (length params)) params)

-- the operand and the value that an assumed atom gives
abbrev pub value_given : Operand → Operand → List Valued
value_given x (Col place column) = []
value_given x (Val v) = valued (x, v) ∷ []
value_given x (Param n) = []
value_given x (Var n) = []

abbrev pub parameter_of : Atom → List Valued
parameter_of atom = value_given atom.left atom.right

abbrev pub parameters_of : List Atom → List Valued
parameters_of atoms = flat_map parameter_of atoms

-- the variables with the values, then the parameters with theirs
pub record HasOperands (p : Problem) (values : List Value) (operands : List Valued) : Type 0 where
  pub params : List Value
  pub has : HasParams p params
  pub is : operands ≡ operands_with values params

-- ---- the atoms of a group

-- each two, by the first, then by the second
abbrev pub pairs : List Valued → List (Valued × Valued)
pairs [] = []
pairs (x ∷ xs) = map (λ y. (x, y)) xs ++ pairs xs

-- of one operand
abbrev pub fixed_of : Valued → Atom
fixed_of x = record { op = Eq; left = x.operand; right = Val x.value }

-- of two whole numbers with different values the lesser is less
pub data IsLessOf (x y : Valued) : Atom → Type 0 where
  first : {m n : ℤ} → x.value ≡ Int m → y.value ≡ Int n → m <ℤ n → IsLessOf x y (record { op = Lt; left = x.operand; right = y.operand })
  second : {m n : ℤ} → x.value ≡ Int m → y.value ≡ Int n → n <ℤ m → IsLessOf x y (record { op = Lt; left = y.operand; right = x.operand })

-- both have a kind, which is one
pub record AreOfOneKind (v w : Value) : Type 0 where
  pub kind : Kind
  pub left : kind_of_value v ≡ Some kind
  pub right : kind_of_value w ≡ Some kind

abbrev pub sided : Op → Valued → Valued → Atom
sided op x y = record { op = op; left = x.operand; right = y.operand }

-- two of one kind with different values differ
pub record IsApartOf (x y : Valued) (atom : Atom) : Type 0 where
  pub kind : AreOfOneKind x.value y.value
  pub values : x.value ≢ y.value
  pub is : atom ≡ record { op = Ne; left = x.operand; right = y.operand }

-- two with equal values are equal
pub record IsEqualOf (x y : Valued) (atom : Atom) : Type 0 where
  pub values : x.value ≡ y.value
  pub is : atom ≡ record { op = Eq; left = x.operand; right = y.operand }

abbrev pub IsPairOf : Group → Valued → Valued → Atom → Type 0
IsPairOf Fixed x y atom = ⊥
IsPairOf Less x y atom = IsLessOf x y atom
IsPairOf Apart x y atom = IsApartOf x y atom
IsPairOf Equal x y atom = IsEqualOf x y atom

-- the pair's atom, if it has one
abbrev pub IsOne : Group → Valued × Valued → Option Atom → Type 0
IsOne group (x, y) None = (atom : Atom) → ¬ (IsPairOf group x y atom)
IsOne group (x, y) (Some atom) = IsPairOf group x y atom

abbrev pub those : Option Atom → List Atom
those None = []
those (Some atom) = atom ∷ []

-- the atoms that pairs have are added, in order
pub record AddsOnes (group : Group) (twos : List (Valued × Valued)) (old new : List Atom) : Type 0 where
  pub ones : List (Option Atom)
  pub each : AllZip (IsOne group) twos ones
  pub new_is : new ≡ old ++ flat_map those ones

abbrev pub IsGroupOfPairs : Group → List Valued → List Atom → Type 0
IsGroupOfPairs group operands atoms = AddsOnes group (pairs operands) [] atoms

-- `x = literal` of each operand; else the pairs that have such an atom, in order
abbrev pub IsGroup : Group → List Valued → List Atom → Type 0
IsGroup Fixed operands atoms = atoms ≡ map fixed_of operands
IsGroup Less operands atoms = IsGroupOfPairs Less operands atoms
IsGroup Apart operands atoms = IsGroupOfPairs Apart operands atoms
IsGroup Equal operands atoms = IsGroupOfPairs Equal operands atoms

-- the atoms of a group are added
pub record AddsGroup (group : Group) (operands : List Valued) (old new : List Atom) : Type 0 where
  pub atoms : List Atom
  pub group_is : IsGroup group operands atoms
  pub new_is : new ≡ old ++ atoms

-- the four groups
pub record IsFull (operands : List Valued) (fixed less apart equal : List Atom) : Type 0 where
  pub fixed_are : IsGroup Fixed operands fixed
  pub less_are : IsGroup Less operands less
  pub apart_are : IsGroup Apart operands apart
  pub equal_are : IsGroup Equal operands equal

-- the full condition as one list, and where each group but the last ends
pub record IsFullList (operands : List Valued) (atoms : List Atom) (ends : Ends) : Type 0 where
  pub fixed : List Atom
  pub less : List Atom
  pub apart : List Atom
  pub equal : List Atom
  pub full : IsFull operands fixed less apart equal
  pub atoms_are : atoms ≡ fixed ++ less ++ apart ++ equal
  pub fixed_end : ends.fixed ≡ length fixed
  pub less_end : ends.less ≡ length (fixed ++ less)
  pub apart_end : ends.apart ≡ length (fixed ++ less ++ apart)

-- the groups end one after another, and within the list
pub record AreUp (ends : Ends) (atoms : List Atom) : Type 0 where
  pub less : ends.fixed ≤ ends.less
  pub apart : ends.less ≤ ends.apart
  pub all : ends.apart ≤ length atoms

-- of which all is kept
pub record IsFullPass (operands : List Valued) (atoms : List Atom) (kept : List Bool) (ends : Ends) : Type 0 where
  pub full : IsFullList operands atoms ends
  pub kept_are : kept ≡ replicate (length atoms) true

-- the steps close the pattern under the full condition
pub record IsAcceptedFully (g : Problem) (operands : List Valued) (taken : List Step) : Type 0 where
  pub fixed : List Atom
  pub less : List Atom
  pub apart : List Atom
  pub equal : List Atom
  pub full : IsFull operands fixed less apart equal
  pub accepted : IsAccepted g taken (fixed ++ less ++ apart ++ equal)

-- the pattern fits, whatever is assumed of its operands by an atom of the full condition
pub record PatternFits (it : Pattern) : Type 0 where
  pub problem : ProblemFits it.problem
  pub operands : All (λ x. kind_of it.problem.policy.schema (kinds_of it.problem.policy.params) it.problem.vars [] x.operand ≡ kind_of_value x.value) it.operands
  pub not_null : All (λ x. x.value ≢ Null) it.operands

-- the atoms fit the pattern
abbrev pub AtomsFit : Problem → List Atom → Type 0
AtomsFit g atoms = All (AtomFits g.policy.schema (kinds_of g.policy.params) g.vars []) atoms

-- ---- the pass

-- What is left of the full condition where its groups are gone through in order, each from its last atom to its first, and an atom is dropped without which
-- the steps still prove the pattern.
pub record IsCondition (g : Problem) (operands : List Valued) (taken : List Step) (condition : List Atom) : Type 0 where
  pub fixed : List Atom
  pub less : List Atom
  pub apart : List Atom
  pub equal : List Atom
  pub full : IsFull operands fixed less apart equal
  pub accepted : IsAccepted g taken (fixed ++ less ++ apart ++ equal)
  pub fixed_left : List Atom
  pub less_left : List Atom
  pub apart_left : List Atom
  pub equal_left : List Atom
  pub fixed_drops : Drops (IsAccepted g taken) [] fixed (less ++ apart ++ equal) fixed_left
  pub less_drops : Drops (IsAccepted g taken) fixed_left less (apart ++ equal) less_left
  pub apart_drops : Drops (IsAccepted g taken) (fixed_left ++ less_left) apart equal apart_left
  pub equal_drops : Drops (IsAccepted g taken) (fixed_left ++ less_left ++ apart_left) equal [] equal_left
  pub condition_is : condition ≡ fixed_left ++ less_left ++ apart_left ++ equal_left

-- the groups but the last, one after another
pub record DropsGroups (P : List Atom → Type 0) (atoms : List Atom) (old new : List Bool) (ends : Ends) : Type 0 where
  pub first : List Bool
  pub second : List Bool
  pub first_flags : length first ≡ length atoms
  pub second_flags : length second ≡ length atoms
  pub flags : length new ≡ length atoms
  pub fixed : DropsRun P atoms old first 0 ends.fixed
  pub less : DropsRun P atoms first second ends.fixed ends.less
  pub apart : DropsRun P atoms second new ends.less ends.apart
