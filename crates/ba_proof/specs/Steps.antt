-- The steps of a proof file. What is no step is a bad field. `vars` is how many variables there are: a
-- proof file has none, and a template has its problem's.
use Rattle.std.specs.Prelude.{ℕ, List, [], ◌∷◌, codes, nat_le, nat_lt, option_and_then, Result, Ok, if◌then◌else◌}
use Rattle.std.specs.List.{position}
use Rattle.std.specs.Str.{bytes_eq}
use Rattle.serde_json.specs.Data.{Data}
use Rattle.ba_model.specs.Readings.{◌>>=◌, each}
use Rattle.ba_model.specs.declared.policy.Parameter.{Parameter}
use Rattle.ba_model.specs.declared.query.Op.{Op}
use Rattle.ba_model.specs.declared.query.Op.TheVariants.{Eq, Ne, Lt, Le, IsNull, NotNull}
use Rattle.ba_model.specs.declared.value.Value.TheVariants as value
use Rattle.ba_facts.specs.declared.term.Term.{Term}
use Rattle.ba_facts.specs.declared.term.Term.TheVariants.{Unknown, Val, Param, Var}
use Rattle.ba_facts.specs.declared.term.TermAtom.{TermAtom}
use Rattle.ba_kernel.specs.declared.step.Step.{Step}
use Rattle.ba_kernel.specs.declared.step.Step.TheVariants as steps
use Rattle.ba_script.specs.Script.{given_of}
use Rattle.ba_script.specs.declared.line.Given.{Given}
use Rattle.ba_script.specs.declared.line.Given.TheVariants as given
use Rattle.ba_proof.specs.Shapes.{as_long, as_short, bad, list_at, or_bad, short, text_at}
use Rattle.ba_proof.specs.declared.fault.ProofFault.{ProofFault}
use Rattle.ba_proof.specs.declared.fault.ProofField.TheVariants.{Steps}
use Rattle.ba_proof.specs.declared.version.TheConstants.{RULE_VERSION}

abbrev pub number_at : Data → Result ℕ ProofFault
number_at d = or_bad Steps (as_short d)

abbrev pub long_at : Data → Result ℕ ProofFault
long_at d = or_bad Steps (as_long d)

unfoldable pub numbers_at : Data → Result (List ℕ) ProofFault
numbers_at d = list_at Steps d >>= each number_at

-- ---- terms and atoms

-- the parameter of the name, by its number
unfoldable pub param_of : List Parameter → List ℕ → Result Term ProofFault
param_of params name = or_bad Steps (option_and_then short (position (λ parameter. bytes_eq parameter.name name) params)) >>= λ n. Ok (Param n)

-- the variable of the number
abbrev pub var_of : ℕ → ℕ → Result Term ProofFault
var_of vars n = if nat_lt n vars then Ok (Var n) else bad Steps

-- what stands behind the mark: an unknown's number, a parameter's name, or a variable's number
unfoldable pub marked_of : List Parameter → ℕ → List ℕ → Data → Result Term ProofFault
marked_of params vars mark d =
    if bytes_eq mark (codes "u") then (number_at d >>= λ n. Ok (Unknown n))
    else (if bytes_eq mark (codes "p") then (text_at Steps d >>= param_of params)
    else (if bytes_eq mark (codes "v") then (number_at d >>= var_of vars)
    else bad Steps))

abbrev pub pair_of : List Parameter → ℕ → List Data → Result Term ProofFault
pair_of params vars [] = bad Steps
pair_of params vars (mark ∷ []) = bad Steps
pair_of params vars (mark ∷ d ∷ []) = text_at Steps mark >>= λ it. marked_of params vars it d
pair_of params vars (mark ∷ d ∷ other ∷ more) = bad Steps

abbrev pub term_given : List Parameter → ℕ → Given → Data → Result Term ProofFault
term_given params vars (given.Int n) d = Ok (Val (value.Int n))
term_given params vars (given.Text s) d = Ok (Val (value.Text s))
term_given params vars given.Other d = list_at Steps d >>= pair_of params vars

-- a whole number, a text, an unknown, a parameter or a variable; NULL is no term
unfoldable pub term_at : List Parameter → ℕ → Data → Result Term ProofFault
term_at params vars d = term_given params vars (given_of d) d

unfoldable pub op_of : List ℕ → Result Op ProofFault
op_of s =
    if bytes_eq s (codes "=") then Ok Eq
    else (if bytes_eq s (codes "<>") then Ok Ne
    else (if bytes_eq s (codes "<") then Ok Lt
    else (if bytes_eq s (codes "<=") then Ok Le
    else (if bytes_eq s (codes "is null") then Ok IsNull
    else (if bytes_eq s (codes "is not null") then Ok NotNull
    else bad Steps)))))

abbrev pub atom_with : Op → Term → Term → TermAtom
atom_with op left right = record { op = op; left = left; right = right }

abbrev pub atom_of : List Parameter → ℕ → List Data → Result TermAtom ProofFault
atom_of params vars [] = bad Steps
atom_of params vars (a ∷ []) = bad Steps
atom_of params vars (a ∷ b ∷ []) = bad Steps
atom_of params vars (a ∷ b ∷ c ∷ []) = text_at Steps a >>= op_of >>= λ op. term_at params vars b >>= λ left. term_at params vars c >>= λ right. Ok (atom_with op left right)
atom_of params vars (a ∷ b ∷ c ∷ d ∷ more) = bad Steps

abbrev pub atom_at : List Parameter → ℕ → Data → Result TermAtom ProofFault
atom_at params vars d = list_at Steps d >>= atom_of params vars

-- ---- steps, by what stands behind their names

abbrev pub entry_of : List Data → Result Step ProofFault
entry_of [] = bad Steps
entry_of (a ∷ []) = bad Steps
entry_of (a ∷ b ∷ []) = number_at a >>= λ branch. long_at b >>= λ entry. Ok (steps.Entry branch entry)
entry_of (a ∷ b ∷ c ∷ more) = bad Steps

abbrev pub key_of : List Data → Result Step ProofFault
key_of [] = bad Steps
key_of (a ∷ []) = bad Steps
key_of (a ∷ b ∷ []) = bad Steps
key_of (a ∷ b ∷ c ∷ []) = bad Steps
key_of (a ∷ b ∷ c ∷ d ∷ []) = number_at a >>= λ branch. number_at b >>= λ key. number_at c >>= λ left. number_at d >>= λ right. Ok (steps.Key branch key left right)
key_of (a ∷ b ∷ c ∷ d ∷ e ∷ more) = bad Steps

abbrev pub link_of : List Data → Result Step ProofFault
link_of [] = bad Steps
link_of (a ∷ []) = bad Steps
link_of (a ∷ b ∷ []) = bad Steps
link_of (a ∷ b ∷ c ∷ []) = number_at a >>= λ branch. number_at b >>= λ link. number_at c >>= λ fact. Ok (steps.Link branch link fact)
link_of (a ∷ b ∷ c ∷ d ∷ more) = bad Steps

abbrev pub rule_of : List Data → Result Step ProofFault
rule_of [] = bad Steps
rule_of (a ∷ []) = bad Steps
rule_of (a ∷ b ∷ []) = bad Steps
rule_of (a ∷ b ∷ c ∷ []) = bad Steps
rule_of (a ∷ b ∷ c ∷ d ∷ []) = number_at a >>= λ branch. number_at b >>= λ rule. number_at c >>= λ part. numbers_at d >>= λ facts. Ok (steps.Rule branch rule part facts)
rule_of (a ∷ b ∷ c ∷ d ∷ e ∷ more) = bad Steps

abbrev pub view_of : List Data → Result Step ProofFault
view_of [] = bad Steps
view_of (a ∷ []) = bad Steps
view_of (a ∷ b ∷ []) = bad Steps
view_of (a ∷ b ∷ c ∷ []) = bad Steps
view_of (a ∷ b ∷ c ∷ d ∷ []) = number_at a >>= λ branch. number_at b >>= λ it. number_at c >>= λ part. numbers_at d >>= λ facts. Ok (steps.View branch it part facts)
view_of (a ∷ b ∷ c ∷ d ∷ e ∷ more) = bad Steps

abbrev pub split_of : List Parameter → ℕ → List Data → Result Step ProofFault
split_of params vars [] = bad Steps
split_of params vars (a ∷ []) = bad Steps
split_of params vars (a ∷ b ∷ []) = number_at a >>= λ branch. atom_at params vars b >>= λ atom. Ok (steps.Split branch atom)
split_of params vars (a ∷ b ∷ c ∷ more) = bad Steps

abbrev pub absurd_of : List Data → Result Step ProofFault
absurd_of [] = bad Steps
absurd_of (a ∷ []) = number_at a >>= λ branch. Ok (steps.Absurd branch)
absurd_of (a ∷ b ∷ more) = bad Steps

abbrev pub goal_of : List Data → Result Step ProofFault
goal_of [] = bad Steps
goal_of (a ∷ []) = bad Steps
goal_of (a ∷ b ∷ []) = bad Steps
goal_of (a ∷ b ∷ c ∷ []) = number_at a >>= λ branch. number_at b >>= λ part. numbers_at c >>= λ facts. Ok (steps.Goal branch part facts)
goal_of (a ∷ b ∷ c ∷ d ∷ more) = bad Steps

-- a rule stands in the version of rules alone
abbrev pub rule_in : ℕ → List Data → Result Step ProofFault
rule_in version args = if nat_le RULE_VERSION version then rule_of args else bad Steps

-- a step with its name
unfoldable pub named_of : List Parameter → ℕ → ℕ → List ℕ → List Data → Result Step ProofFault
named_of params vars version name args =
    if bytes_eq name (codes "entry") then entry_of args
    else (if bytes_eq name (codes "key") then key_of args
    else (if bytes_eq name (codes "link") then link_of args
    else (if bytes_eq name (codes "rule") then rule_in version args
    else (if bytes_eq name (codes "view") then view_of args
    else (if bytes_eq name (codes "split") then split_of params vars args
    else (if bytes_eq name (codes "absurd") then absurd_of args
    else (if bytes_eq name (codes "goal") then goal_of args
    else bad Steps)))))))

abbrev pub step_of : List Parameter → ℕ → ℕ → List Data → Result Step ProofFault
step_of params vars version [] = bad Steps
step_of params vars version (name ∷ args) = text_at Steps name >>= λ it. named_of params vars version it args

-- a list of a step's name and its numbers
unfoldable pub step_at : List Parameter → ℕ → ℕ → Data → Result Step ProofFault
step_at params vars version d = list_at Steps d >>= step_of params vars version
