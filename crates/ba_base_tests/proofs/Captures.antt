-- What a closure captures may go to another thread, where each capture may.
use denote.RattleType.{RattleType}
use denote.Exit.{yes}
use denote.Param.{param, arg}
use denote.Param.Send.{IsSend, AllSend, param_send, arg_send}
use denote.Param.SendFields.{FieldsHave, declared_send, as_row_send}
use denote.Struct.Field.{row_field}
use denote.Struct.Tuple.{TupleAt, type_at, parts}
use mir.Syntax.{Ty, Sym}
use Rattle.std.proofs.Common.{ℕ, List, [], ◌∷◌}

each_send : (Ts : List RattleType) → AllSend Ts → FieldsHave IsSend (parts Ts)
each_send [] s = tt
each_send (T ∷ Ts) s = (as_row_send (row_field T) s.0, each_send Ts s.1)

pub captures_send : (i : ℕ) (δ : Ty) (ν : Sym) (Ts : List RattleType) → AllSend Ts → IsSend (param i (arg δ yes (TupleAt ν Ts)))
captures_send i δ ν Ts s = param_send i (arg δ yes (TupleAt ν Ts)) (arg_send δ yes (TupleAt ν Ts) (declared_send (type_at ν Ts) (each_send Ts s)))
