use Rattle.ba_proof.proofs.FileSaid.{is_read, is_refused, reads, refuses, unique}
use Rattle.ba_proof.proofs.laws.proof_is_exact.Goals as goal

pub returns : goal.returns
returns c =
    let reading = c.query_reading.ensures.text in
    record {
      reads = λ policy bytes proof. (is_read policy reading bytes proof, reads policy reading bytes proof);
      unique = λ policy bytes p q. unique policy reading bytes p q;
      refuses = λ policy bytes f. (is_refused policy reading bytes f, refuses policy reading bytes f);
    }
