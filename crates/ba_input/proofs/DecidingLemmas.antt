-- What the words behind `decide` come to, stage by stage.
use Rattle.std.proofs.Common.{◌≡◌, refl, sym, ap₂, subst, List, Result, Ok, Err, ℕ}
use Rattle.ba_command.specs.declared.decide.Deciding.{Deciding}
use Rattle.ba_kernel.specs.SearchStates as kernel
use Rattle.ba_model.specs.declared.policy.Policy.{Policy}
use Rattle.ba_outside.specs.Seen.{FilesSeen}
use Rattle.ba_plan.specs.Follows.{Follows}
use Rattle.ba_plan.specs.declared.stop.Stop.{Stop}
use Rattle.ba_input.specs.Deciding.{LoadsFrom, ReadsNamed, given, policy_reading_of}
use Rattle.ba_target.specs.declared.target.Target.{Target}
use Rattle.ba_wire.specs.declared.fault.Fault.{Fault}

-- by the names that are lent
follows_named : (named : Deciding) (schema policy : List ℕ) (s m : FilesSeen) (r : Result Policy (Stop Fault)) → schema ≡ named.schema → policy ≡ named.policy → Follows (policy_reading_of schema policy) s m r
    → Follows (policy_reading_of named.schema named.policy) s m r
follows_named named schema policy s m r one two follows = subst (λ p. Follows p s m r) (ap₂ policy_reading_of one two) follows

-- no policy was read
pub named_err : (named : Deciding) (schema policy : List ℕ) (s m : FilesSeen) (e : Stop Fault) → schema ≡ named.schema → policy ≡ named.policy → Follows (policy_reading_of schema policy) s m (Err e) → ReadsNamed named s m (Err e)
named_err named schema policy s m e one two follows = record {
  between = m;
  gave = Err e;
  follows = follows_named named schema policy s m (Err e) one two follows;
  goes_on = (refl, refl);
}

-- the policy was read, and these are the templates, or why there are none
pub named_ok : (named : Deciding) (schema policy : List ℕ) (s m t : FilesSeen) (it : Policy) (templates : Result (List kernel.Proof) (Stop Fault)) → schema ≡ named.schema → policy ≡ named.policy → Follows (policy_reading_of schema policy) s m (Ok it)
    → LoadsFrom named.load it m t templates → ReadsNamed named s t (given named it templates)
named_ok named schema policy s m t it templates one two follows loads = record {
  between = m;
  gave = Ok it;
  follows = follows_named named schema policy s m (Ok it) one two follows;
  goes_on = record { templates = templates; loads = loads; is = refl };
}

-- the same for the database that is named
pub named_for : (target : Target) (named : Deciding) (s t : FilesSeen) (it : Policy) (loaded : List kernel.Proof) → target ≡ named.target → ReadsNamed named s t (given named it (Ok loaded))
    → ReadsNamed named s t (Ok (record { policy = it; loaded = loaded; budget = named.budget; evidence = named.evidence; target = target }))
named_for target named s t it loaded e h = subst (λ (x : Target). ReadsNamed named s t (Ok (record { policy = it; loaded = loaded; budget = named.budget; evidence = named.evidence; target = x }))) (sym e) h
