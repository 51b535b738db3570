use Rattle.std.proofs.Common.{◌≡◌, take}
use Rattle.std.specs.List.{AllByRecursion, fold, zip}
use Rattle.serde_json.specs.Data.{no_members}
use Rattle.serde_json.specs.View.{members_view}
use Rattle.ba_script_print.specs.ReadBack.{ValueHasBits}
use Rattle.ba_script_print.specs.Texts.{with_value}
use Rattle.ba_script_print.proofs.entry.context_json.Given as goal

-- the members so far are those of the parameters so far, and so are the values
abbrev pub invariant-loop-i : goal.invariant-loop-i
invariant-loop-i l = record {
  members : members_view l.members.entries ≡ fold with_value no_members (zip (take l.i l.params) l.context.values);
  bits : AllByRecursion (λ given. ValueHasBits given.1) (zip (take l.i l.params) l.context.values);
}
