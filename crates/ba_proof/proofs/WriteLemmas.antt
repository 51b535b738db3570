-- The context's members, assumption by assumption.
use Rattle.std.proofs.Common.{◌≡◌, ◌∙◌, ℕ, ◌+◌, ◌<◌, List, ◌∷◌, length, drop, get_or, sym, ap}
use Rattle.std.proofs.lemmas.List.{drop_more}
use Rattle.serde_json.specs.Data.{Members}
use Rattle.ba_model.specs.declared.policy.Parameter.{Parameter}
use Rattle.ba_model.specs.declared.query.Atom.{Atom}
use Rattle.ba_proof.specs.Written.{literal_in, param_in, with_context, with_value}

pub context_more : (params : List Parameter) (atoms : List Atom) (i : ℕ) (atom : Atom) (ms ms2 whole : Members) → i < length atoms → atom ≡ get_or atoms i atom
    → with_context params (drop i atoms) ms ≡ whole → ms2 ≡ with_value params (param_in atom.left) (literal_in atom.right) ms
    → with_context params (drop (i + 1) atoms) ms2 ≡ whole
context_more params atoms i atom ms ms2 whole lt is before e =
    ap (with_context params (drop (i + 1) atoms)) e
    ∙ (sym (ap (λ all. with_context params all ms) (drop_more atoms i atom lt ∙ ap (λ it. it ∷ drop (i + 1) atoms) (sym is))) ∙ before)
