use Rattle.std.proofs.lemmas.Result.{IfOk-weaker}
use Rattle.ba_proof.proofs.ReadBackLemmas.{json_reads_back, ok_both, text_is}
use Rattle.ba_proof.proofs.write.write_proof.Goals as goal

pub returns-clause-text : goal.returns-clause-text
returns-clause-text c =
    IfOk-weaker c.to_vec.result _ _ (λ bytes text. text_is c.args.problem.now c.args.steps.now _ bytes.items c.in_ok-proof_json.ensures text) c.to_vec.ensures.text

pub returns-clause-reads_back : goal.returns-clause-reads_back
returns-clause-reads_back c =
    ok_both c.to_vec.result _ _ _
    (λ bytes utf8 reading. json_reads_back c.printed_query_reads_back.ensures.same c.args.problem.now c.args.steps.now _ bytes.items c.in_ok-proof_json.ensures utf8 reading)
    c.to_vec.ensures.utf8 c.to_vec.ensures.reads_back
