-- The values that a begin line gives the parameters of a policy.
use Rattle.std.specs.Prelude.{◌≡◌, ℕ, List, [], ◌∷◌, All, Bool, Option, Some, None, option_and_then, option_map, if◌then◌else◌}
use Rattle.std.specs.List.{AllZip, Any, list_all, list_any}
use Rattle.std.specs.Str.{bytes_eq}
use Rattle.ba_model.specs.declared.policy.Context.{Context}
use Rattle.ba_model.specs.declared.policy.Parameter.{Parameter}
use Rattle.ba_model.specs.declared.schema.Kind.{Kind}
use Rattle.ba_model.specs.declared.schema.Kind.TheVariants.{Int as IntKind, Text as TextKind}
use Rattle.ba_model.specs.declared.value.Value.{Value}
use Rattle.ba_model.specs.declared.value.Value.TheVariants as value
use Rattle.ba_script.specs.declared.line.Given.{Given}
use Rattle.ba_script.specs.declared.line.Given.TheVariants.{Int, Text, Other}
use Rattle.ba_script.specs.declared.line.Member.{Member}

abbrev pub is_named : List ℕ → Parameter → Bool
is_named name param = bytes_eq param.name name

-- whether the member has a parameter's name
unfoldable pub is_declared : List Parameter → Member → Bool
is_declared params m = list_any (is_named m.name) params

abbrev pub are_declared : List Parameter → List Member → Bool
are_declared params members = list_all (is_declared params) members

unfoldable pub is_called : List ℕ → Member → Bool
is_called name m = bytes_eq m.name name

-- what a context gives the name, if it has the name
abbrev pub given_for : List ℕ → List Member → Option Given
given_for name [] = None
given_for name (m ∷ ms) = if is_called name m then Some m.value else given_for name ms

-- the value of the kind that is given, if it is one; null is of no kind
abbrev pub of_kind : Kind → Given → Option Value
of_kind IntKind (Int n) = Some (value.Int n)
of_kind IntKind (Text s) = None
of_kind IntKind Other = None
of_kind TextKind (Int n) = None
of_kind TextKind (Text s) = Some (value.Text s)
of_kind TextKind Other = None

abbrev pub value_for : List Member → Parameter → Option Value
value_for members param = option_and_then (of_kind param.kind) (given_for param.name members)

abbrev pub with_value : Value → Option (List Value) → Option (List Value)
with_value v None = None
with_value v (Some vs) = Some (v ∷ vs)

abbrev pub with_rest : Option Value → Option (List Value) → Option (List Value)
with_rest None rest = None
with_rest (Some v) rest = with_value v rest

-- the value of each parameter, if each has one
abbrev pub values_for : List Member → List Parameter → Option (List Value)
values_for members [] = Some []
values_for members (param ∷ params) = with_rest (value_for members param) (values_for members params)

abbrev pub context_with : List Value → Context
context_with values = record { values = values }

-- the context that the members are for these parameters, if they are one
unfoldable pub context_of : List Parameter → List Member → Option Context
context_of params members = if are_declared params members then option_map context_with (values_for members params) else None

-- ---- What that means, apart from how it is found

-- the member of the parameter's name has this value, of the parameter's kind
abbrev pub IsValueFor : List Member → Parameter → Value → Type 0
IsValueFor members param v = (given : Given) × (given_for param.name members ≡ Some given) × (of_kind param.kind given ≡ Some v)

-- every parameter has its value, of its kind, and no other name has one
pub record IsContext (params : List Parameter) (members : List Member) (context : Context) : Type 0 where
  pub values : AllZip (IsValueFor members) params context.values
  pub no_other : All (λ m. Any (λ param. param.name ≡ m.name) params) members
