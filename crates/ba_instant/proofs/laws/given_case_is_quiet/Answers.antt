use Rattle.ba_instant.proofs.GivenLemmas.{given_case_is_quiet}
use Rattle.ba_instant.proofs.laws.given_case_is_quiet.Goals as goal

pub returns : goal.returns
returns c = given_case_is_quiet
