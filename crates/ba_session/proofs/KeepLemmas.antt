-- What becomes of the template of a proof.
use Rattle.std.proofs.Common.{◌≡◌, ◌∙◌, sym, ap, subst, List, []}
use Rattle.ba_cache.specs.Rows.{shape_of_template}
use Rattle.ba_cache.specs.declared.call.ShelfCall.{ShelfCall}
use Rattle.ba_general.specs.Generals.{IsGeneralised, OwnInstance}
use Rattle.ba_kernel.specs.SearchStates.{Proof}
use Rattle.ba_kernel.specs.declared.problem.Problem.{Problem}
use Rattle.ba_session.specs.Asking.{IsKept}
use Rattle.ba_session.specs.Judging.{IsAdmitted}
use Rattle.ba_session.specs.Passing.{Makes, on_shelf}
use Rattle.ba_session.specs.declared.reply.Keeping.{Keeping}
use Rattle.ba_session.specs.declared.reply.Keeping.TheVariants as keeping
use Rattle.ba_session.specs.declared.service.Passes.{Passes}
use Rattle.ba_template.specs.Shapes.{InstanceHasShape, shape_of, shard_of}

-- the template has the shape of its proof's question, and so its shard
same_shard : InstanceHasShape → (p : Problem) (t : Proof) → OwnInstance p t → shard_of (shape_of_template t) ≡ shard_of (shape_of [] p.goal)
same_shard law p t own =
    ap shard_of (sym (law t.problem.vars own.values t.problem.goal own.instance.vars) ∙ ap (shape_of []) own.question)

kept_by : (proof t : Proof) → IsGeneralised proof t → (it : Keeping) (calls : List ShelfCall) → IsAdmitted t it calls → IsKept proof it calls
kept_by proof t general (keeping.Stored answer) calls h = (t, general, h)
kept_by proof t general keeping.Wide calls h = absurd h
kept_by proof t general keeping.NoMemory calls h = h

pub kept_admitted : InstanceHasShape → (proof t : Proof) → IsGeneralised proof t → OwnInstance proof.problem t → (it : Keeping) (old new : Passes) →
    ((calls : List ShelfCall) × IsAdmitted t it calls × Makes (record { shard = shard_of (shape_of_template t); calls = calls }) old new) →
    (calls : List ShelfCall) × IsKept proof it calls × Makes (on_shelf proof.problem.goal calls) old new
kept_admitted law proof t general own it old new (calls, admitted, made) =
    (calls, kept_by proof t general it calls admitted, subst (λ z. Makes (record { shard = z; calls = calls }) old new) (same_shard law proof.problem t own) made)
