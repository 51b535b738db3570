-- Steps that were written read back.
use Rattle.std.proofs.Common.{◌≡◌, ◌≢◌, ◌∙◌, ℕ, zero, suc, ◌<◌, List, [], ◌∷◌, length, map, All, Bool, true, false, cond, Some, None, refl, sym, ap, arith, nat_lt, nat_le, ◌^◌, pos, negsuc}
use Rattle.std.specs.Prelude.{Ok, slice_get}
use Rattle.std.specs.List.{AllByRecursion}
use Rattle.std.specs.Str.{bytes_eq}
use Rattle.std.proofs.lemmas.Bool.{le-leb}
use Rattle.std.proofs.lemmas.List.Elements.{recursion_from_All}
use Rattle.serde_json.specs.Data.{Data}
use Rattle.ba_model.specs.Readings.{each}
use Rattle.ba_model.specs.declared.policy.Parameter.{Parameter}
use Rattle.ba_kernel.specs.declared.step.Step.{Step}
use Rattle.ba_kernel.specs.declared.step.Step.TheVariants as steps
use Rattle.std.specs.List.{IsDistinct, position_or_len}
use Rattle.std.proofs.lemmas.Bool.{lt-ltb}
use Rattle.ba_model.specs.SchemaFaults.{AreDistinct}
use Rattle.ba_model.specs.declared.query.Op.{Op}
use Rattle.ba_model.specs.declared.query.Op.TheVariants.{Eq, Ne, Lt, Le, IsNull, NotNull}
use Rattle.ba_model.specs.declared.schema.Kind.{Kind}
use Rattle.ba_model.specs.declared.value.Value.TheVariants as value
use Rattle.ba_facts.specs.Laws.{kind_of_term}
use Rattle.ba_facts.specs.declared.branch.Branch.{Branch}
use Rattle.ba_facts.specs.declared.term.Term.{Term}
use Rattle.ba_facts.specs.declared.term.Term.TheVariants as term
use Rattle.ba_facts.specs.declared.term.TermAtom.{TermAtom}
use Rattle.ba_script.specs.Script.{given_from}
use Rattle.ba_sql_print.specs.Printed.{param_name}
use Rattle.ba_proof.proofs.ContextLemmas.{name_there}
use Rattle.ba_proof.proofs.PutLemmas.{text_itself}
use Rattle.ba_proof.proofs.ShapeLemmas.{items_are}
use Rattle.ba_proof.specs.ReadBack.{AtomSpells, IsShort, NullIsNoTerm, StepSpells, TermSpells}
use Rattle.ba_proof.specs.Shapes.{as_short}
use Rattle.ba_proof.specs.Steps.{atom_at, marked_of, named_of, number_at, numbers_at, op_of, param_of, step_at, term_at, term_given}
use Rattle.ba_proof.specs.Written.{atom_json, count, is_rule, list_json, op_name, step_json, term_json}
use Rattle.ba_proof.specs.declared.version.TheConstants.{RULE_VERSION}

pub number_reads : (n : ℕ) → IsShort n → number_at (count n) ≡ Ok n
unfolding as_short
number_reads n h = let small : nat_le n 0xffff_ffff ≡ true = le-leb n 0xffff_ffff (omega (arith, h)) in rw small refl

each_number : (ns : List ℕ) → AllByRecursion IsShort ns → each number_at (map count ns) ≡ Ok ns
each_number [] h = refl
each_number (n ∷ ns) h = rw (number_reads n h.0, each_number ns h.1) refl

pub numbers_read : (ns : List ℕ) → All IsShort ns → numbers_at (list_json (map count ns)) ≡ Ok ns
unfolding numbers_at
numbers_read ns h = ap (each number_at) (items_are (map count ns)) ∙ each_number ns (recursion_from_All IsShort ns h)

-- ---- parameters

some_same : {X : Type 0} (x y : X) → Some x ≡ Some y → x ≡ y
some_same x y e = cc e

-- a name that stands once differs from the one before it
differs_at : (name : List ℕ) (ps : List Parameter) (n : ℕ) (p : Parameter) → AllByRecursion (λ other. bytes_eq name other ≡ false) (map (λ q. q.name) ps) → slice_get ps n ≡ Some p
    → bytes_eq name p.name ≡ false
differs_at name [] n p h e = cc e
differs_at name (q ∷ ps) zero p h e = ap (λ (x : Parameter). bytes_eq name x.name) (sym (some_same q p e)) ∙ h.0
differs_at name (q ∷ ps) (suc n) p h e = differs_at name ps n p h.1 e

stands_at : (ps : List Parameter) (n : ℕ) (p : Parameter) → AreDistinct (map (λ q. q.name) ps) → slice_get ps n ≡ Some p → position_or_len (λ q. bytes_eq q.name p.name) ps ≡ n
unfolding IsDistinct
stands_at [] n p apart e = cc e
stands_at (q ∷ ps) zero p apart e = rw (ap (λ (x : Parameter). bytes_eq x.name p.name) (some_same q p e) ∙ text_itself p.name) refl
stands_at (q ∷ ps) (suc n) p apart e =
    let other : bytes_eq q.name p.name ≡ false = differs_at q.name ps n p apart.0 e in
    let rest : position_or_len (λ x. bytes_eq x.name p.name) ps ≡ n = stands_at ps n p apart.1 e in
    rw (other, rest) (omega arith)

there_is : {X : Type 0} (xs : List X) (n : ℕ) → n < length xs → (x : X) × (slice_get xs n ≡ Some x)
there_is [] n h = absurd (omega (arith, h))
there_is (x ∷ xs) zero h = (x, refl)
there_is (x ∷ xs) (suc n) h = there_is xs n (omega (arith, h))

pub param_reads : (params : List Parameter) (n : ℕ) → AreDistinct (map (λ q. q.name) params) → n < length params → IsShort n → param_of params (param_name params n) ≡ Ok (term.Param n)
unfolding param_of
param_reads params n apart lt bits =
    let it = there_is params n lt in
    let place : position_or_len (λ q. bytes_eq q.name it.0.name) params ≡ n = stands_at params n it.0 apart it.1 in
    let within : nat_lt n (length params) ≡ true = lt-ltb n (length params) lt in
    let small : nat_le n 0xffff_ffff ≡ true = le-leb n 0xffff_ffff (omega (arith, bits)) in
    rw (name_there params n it.0 it.1, place, within, small) refl

-- ---- terms and atoms

int_term : (params : List Parameter) (vars n : ℕ) (b : Bool) (d : Data) → b ≡ true → term_given params vars (given_from None (cond b (Some (pos n)) None)) d ≡ Ok (term.Val (value.Int (pos n)))
int_term params vars n true d e = refl
int_term params vars n false d e = cc e

term_reads : (params : List Parameter) (vars : ℕ) (t : Term) → AreDistinct (map (λ q. q.name) params) → TermSpells params vars t → term_at params vars (term_json params vars t) ≡ Ok t
unfolding term_at marked_of
term_reads params vars (term.Unknown n) apart h = rw (number_reads n h) refl
term_reads params vars (term.Val value.Null) apart h = absurd (h.0 refl)
term_reads params vars (term.Val (value.Int (pos n))) apart h = int_term params vars n (nat_lt n (2 ^ 63)) _ h.1
term_reads params vars (term.Val (value.Int (negsuc n))) apart h = refl
term_reads params vars (term.Val (value.Text s)) apart h = refl
term_reads params vars (term.Param n) apart h = param_reads params n apart h.0 h.1
term_reads params vars (term.Var n) apart h = rw (lt-ltb n vars h.0, number_reads n h.1) (rw (lt-ltb n vars h.0) refl)

pub op_reads : (op : Op) → op_of (op_name op) ≡ Ok op
unfolding op_of
op_reads Eq = refl
op_reads Ne = refl
op_reads Lt = refl
op_reads Le = refl
op_reads IsNull = refl
op_reads NotNull = refl

atom_reads : (params : List Parameter) (vars : ℕ) (atom : TermAtom) → AreDistinct (map (λ q. q.name) params) → AtomSpells params vars atom → atom_at params vars (atom_json params vars atom) ≡ Ok atom
unfolding atom_json
atom_reads params vars atom apart h = rw (op_reads atom.op, term_reads params vars atom.left apart h.left, term_reads params vars atom.right apart h.right) refl

-- ---- NULL

pub no_null : (b : Branch) (t : Term) (kind : Kind) → kind_of_term b t ≡ Some kind → t ≢ term.Val value.Null
no_null b t kind e same = cc (sym (ap (kind_of_term b) same) ∙ e)

pub null_no_term : NullIsNoTerm
null_no_term p old new branch atom takes =
    let passes = takes.leads.passes in
    (no_null takes.branch atom.left passes.kind passes.sides.left, no_null takes.branch atom.right passes.kind passes.sides.right)

-- ---- steps

-- a step by a rule is written in a version that has them
abbrev pub HasVersion : ℕ → Step → Type 0
HasVersion version step = is_rule step ≡ true → nat_le RULE_VERSION version ≡ true

pub step_reads : (params : List Parameter) (vars version : ℕ) (step : Step) → AreDistinct (map (λ q. q.name) params) → StepSpells params vars step → HasVersion version step
    → step_at params vars version (step_json params vars step) ≡ Ok step
unfolding step_at step_json named_of is_rule
step_reads params vars version (steps.Entry branch entry) apart h v = rw (number_reads branch h.0) refl
step_reads params vars version (steps.Key branch key left right) apart h v = rw (number_reads branch h.0, number_reads key h.1, number_reads left h.2, number_reads right h.3) refl
step_reads params vars version (steps.Link branch link fact) apart h v = rw (number_reads branch h.0, number_reads link h.1, number_reads fact h.2) refl
step_reads params vars version (steps.Rule branch rule part facts) apart h v =
    rw (v refl, number_reads branch h.0, number_reads rule h.1, number_reads part h.2, numbers_read facts h.3) refl
step_reads params vars version (steps.View branch view part facts) apart h v = rw (number_reads branch h.0, number_reads view h.1, number_reads part h.2, numbers_read facts h.3) refl
step_reads params vars version (steps.Split branch atom) apart h v = rw (number_reads branch h.0, atom_reads params vars atom apart h.1) refl
step_reads params vars version (steps.Absurd branch) apart h v = rw (number_reads branch h) refl
step_reads params vars version (steps.Goal branch part facts) apart h v = rw (number_reads branch h.0, number_reads part h.1, numbers_read facts h.2) refl

pub all_steps : (params : List Parameter) (vars version : ℕ) (all : List Step) → AreDistinct (map (λ q. q.name) params) → AllByRecursion (StepSpells params vars) all → AllByRecursion (HasVersion version) all
    → each (step_at params vars version) (map (step_json params vars) all) ≡ Ok all
all_steps params vars version [] apart h v = refl
all_steps params vars version (step ∷ all) apart h v = rw (step_reads params vars version step apart h.0 v.0, all_steps params vars version all apart h.1 v.1) refl
