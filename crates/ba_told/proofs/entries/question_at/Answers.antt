use Rattle.std.proofs.Common.{◌≡◌, ◌∙◌, ◌<◌, length, sym, subst, arith}
use Rattle.std.proofs.lemmas.Result.{IfOk-weaker}
use Rattle.ba_model.specs.declared.query.Query.{Query}
use Rattle.ba_told.proofs.EntryLemmas.{small_question}
use Rattle.ba_told.specs.Places.{question_at}
use Rattle.ba_told.proofs.entries.question_at.Goals as goal

pub returns-then-len-lt2 : goal.returns-then-len-lt2
returns-then-len-lt2 c =
    let q = c.args.query.now in
    let long : c.len.result ≡ length c.deref.result.now.parts = c.len.ensures in
    let small = c.if-len-lt2.true in
    let here : length c.deref.result.now.parts < 2 = omega (arith, long, small) in
    let low = subst (λ (it : Query). length it.parts < 2) c.deref.ensures here in
    IfOk-weaker c.copy.result (λ (it : Query). it ≡ q) (λ (it : Query). it ≡ question_at q c.args.place) (λ it h. h ∙ sym (small_question q c.args.place low)) c.copy.ensures
