use Rattle.ba_machine_laws.proofs.AgreeLemmas.{ask_agrees}
use Rattle.ba_machine_laws.proofs.laws.ask_agrees.Goals as goal

pub returns : goal.returns
returns c = ask_agrees c.answer_is_unique.ensures
