use Rattle.std.proofs.Common.{◌≡◌, drop}
use Rattle.serde_json.specs.Data.{no_members}
use Rattle.serde_json.specs.View.{members_view}
use Rattle.ba_proof.specs.Written.{with_context}
use Rattle.ba_proof.proofs.write.context_json.Given as goal

-- the members so far, with those of the atoms that are left
abbrev pub invariant-loop-atom : goal.invariant-loop-atom
invariant-loop-atom l = with_context l.params (drop l.atom-index l.atoms) (members_view l.members.entries) ≡ with_context l.params l.atoms no_members
