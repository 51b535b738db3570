use Rattle.std.proofs.Common.{subst}
use Rattle.std.proofs.lemmas.Result.{IfOk-weaker}
use Rattle.std.specs.Prelude.{IsTrue}
use Rattle.ba_instant.specs.Outlooks.{NoneSought, NoneWithin}
use Rattle.ba_instant.proofs.outlook.Outlook.is_bleak.Goals as goal

pub returns : goal.returns
returns c =
    IfOk-weaker c.is_dead.result (λ dead. IsTrue dead → NoneWithin c.args.self.now c.deref.result.now) (λ bleak. IsTrue bleak → NoneSought c.args.self.now)
    (λ dead none yes. c.in_ok-places.ensures (subst (NoneWithin c.args.self.now) c.deref.ensures.value (none yes))) c.is_dead.ensures
