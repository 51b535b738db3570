use Rattle.ba_proof.proofs.ReadBackLemmas.{ok_both}
use Rattle.ba_store.proofs.WriteLemmas.{file_reads_back}
use Rattle.ba_store.proofs.write.write_templates.Goals as goal

pub returns-clause-reads_back : goal.returns-clause-reads_back
returns-clause-reads_back c =
    ok_both c.lines_of.result _ _ _ (λ bytes text have. file_reads_back c.args.templates.now bytes.items text have) c.lines_of.ensures.text c.lines_of.ensures.have
