-- The queries behind a cache key, with its arguments as literals.
use Rattle.std.specs.Prelude.{ℕ, ◌-◌, nat_lt, List, map, length, Option, Some, None, slice_get, if◌then◌else◌}
use Rattle.ba_model.specs.declared.policy.CacheKey.{CacheKey}
use Rattle.ba_model.specs.declared.policy.Context.{Context}
use Rattle.ba_model.specs.declared.policy.Policy.{Policy}
use Rattle.ba_model.specs.declared.query.Atom.{Atom}
use Rattle.ba_model.specs.declared.query.Operand.{Operand}
use Rattle.ba_model.specs.declared.query.Operand.TheVariants.{Col, Val, Param, Var}
use Rattle.ba_model.specs.declared.query.Part.{Part}
use Rattle.ba_model.specs.declared.query.Query.{Query}
use Rattle.ba_model.specs.declared.value.Value.{Value}

abbrev pub literal_or : ℕ → Option Value → Operand
literal_or p None = Param p
literal_or p (Some v) = Val v

-- the parameters from number n on are arguments, with these values
unfoldable pub operand_with : ℕ → List Value → Operand → Operand
operand_with n values (Col place column) = Col place column
operand_with n values (Val v) = Val v
operand_with n values (Param p) =
    if nat_lt p n then Param p else literal_or p (slice_get values (p - n))
operand_with n values (Var m) = Var m

abbrev pub atom_with : ℕ → List Value → Atom → Atom
atom_with n values it = record {
  op = it.op;
  left = operand_with n values it.left;
  right = operand_with n values it.right;
}

abbrev pub part_with : ℕ → List Value → Part → Part
part_with n values it = record {
  from = it.from;
  conds = map (atom_with n values) it.conds;
  head = map (operand_with n values) it.head;
}

abbrev pub query_with : ℕ → List Value → Query → Query
query_with n values it = record { parts = map (part_with n values) it.parts }

-- the key's queries for these values of its arguments, which stand behind the policy's parameters
abbrev pub key_queries : Policy → CacheKey → Context → List Query
key_queries policy key arguments =
    map (query_with (length policy.params) arguments.values) key.queries
