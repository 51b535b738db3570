-- What an answer rests on is read exactly where it is said.
use Rattle.std.proofs.Common.{◌≡◌, ◌∙◌, ℕ, List, [], ◌∷◌, Bool, true, false, Option, Some, None, Result, Ok, Err, refl, sym, ap, subst, codes}
use Rattle.std.specs.List.{AllZip}
use Rattle.std.specs.Str.{bytes_eq}
use Rattle.serde_json.specs.Data.{Data, Members, string, object, no_members, member}
use Rattle.serde_json.specs.Find.{as_object, get}
use Rattle.ba_model.specs.Readings.{◌>>=◌, each, widened}
use Rattle.ba_model.specs.declared.policy.Policy.{Policy}
use Rattle.ba_direct.specs.declared.covers.PartCover.{PartCover}
use Rattle.ba_kernel.specs.declared.step.Step.{Step}
use Rattle.ba_proof.proofs.EntrySaid.{object_is}
use Rattle.ba_proof.proofs.FitLemmas.{bound}
use Rattle.ba_proof.proofs.PutLemmas.{same_text}
use Rattle.ba_proof.proofs.StepSaid.{step_is, step_said}
use Rattle.ba_proof.specs.Says.{SaysEach, SaysLong, SaysStep}
use Rattle.ba_proof.specs.Steps.{step_at}
use Rattle.ba_proof.specs.Written.{list_json}
use Rattle.ba_proof.specs.declared.fault.ProofFault.{ProofFault}
use Rattle.ba_proof.specs.declared.version.TheConstants.{LAST_VERSION}
use Rattle.ba_wire.specs.Printed.{by_name}
use Rattle.ba_printed.proofs.FieldLemmas.{choose, each_zip, field_is, field_said, formed, keys_2, list_of_is, list_of_said, long_in_is, long_in_said, longs_are, longs_said, ok_is, text_in_is, text_in_said, zip_each}
use Rattle.ba_printed.specs.Reading.{cover_with, evidence_in, evidence_named, part_form, part_from, part_keys, part_of, part_with, steps_of}
use Rattle.ba_printed.specs.Says.{SaysEvidence, SaysOwnStep, SaysPart, by_of}
use Rattle.ba_printed.specs.Shapes.{field, keys_are, list_of, long_in, longs_of, or_form, text_in}
use Rattle.ba_printed.specs.declared.line.Evidence.{Evidence}
use Rattle.ba_printed.specs.declared.line.Evidence.TheVariants as evidence
use Rattle.ba_printed.specs.declared.shapes.FormFault.{FormFault}
use Rattle.ba_printed.specs.declared.shapes.FormFault.TheVariants.{NoForm}

-- ---- the views of a cover

abbrev part_object : Data → Data → Data
part_object a b = object (member (codes "pairing") a (member (codes "view") b no_members))

part_there : (d a b : Data) (part : PartCover) → d ≡ part_object a b → part_from d ≡ Ok part → SaysPart d part
unfolding part_from
part_there d a b part is e =
    let in_pairing : get (codes "pairing") d ≡ Some a = ap (get (codes "pairing")) is in
    let in_view : get (codes "view") d ≡ Some b = ap (get (codes "view")) is in
    let view = bound (long_in (codes "view") d) (λ view. (field (codes "pairing") d >>= longs_of >>= λ places. Ok (part_with view places))) part e in
    let places = bound (field (codes "pairing") d >>= longs_of) (λ places. Ok (part_with view.0 places)) part view.2 in
    let p = bound (field (codes "pairing") d) longs_of places.0 places.1 in
    subst (SaysPart d) (ok_is {F = FormFault} (part_with view.0 places.0) part places.2)
    (record {
      a = a;
      b = b;
      is = is;
      places = longs_are a places.0 (ap longs_of (field_is (codes "pairing") d a p.0 in_pairing p.1) ∙ p.2);
      view = long_in_is (codes "view") d b view.0 in_view view.1;
    })

part_is : (d : Data) (part : PartCover) → part_of d ≡ Ok part → SaysPart d part
part_is d part e =
    let members = bound (or_form (as_object d)) (part_form d) part e in
    choose (SaysPart d part) (keys_are part_keys members.0) _ _ part members.2
    (λ b h. (let keys = keys_2 (codes "pairing") (codes "view") members.0 b in
    part_there d keys.0 keys.1 part (object_is d members.0 (formed (as_object d) members.0 members.1) ∙ ap object keys.2) h))
    (λ h. cc h)

part_from_said : (d : Data) (part : PartCover) → SaysPart d part → part_from d ≡ Ok part
unfolding part_from
part_from_said d part h =
    let in_pairing : get (codes "pairing") d ≡ Some h.a = ap (get (codes "pairing")) h.is in
    let in_view : get (codes "view") d ≡ Some h.b = ap (get (codes "view")) h.is in
    let view : long_in (codes "view") d ≡ Ok part.view = long_in_said (codes "view") d h.b part.view in_view h.view in
    let places : (field (codes "pairing") d >>= longs_of) ≡ Ok part.places =
    ap (λ r. r >>= longs_of) (field_said (codes "pairing") d h.a in_pairing) ∙ longs_said h.a part.places h.places in
    rw (view, places) refl

part_form_is : (a b : Data) → part_of (part_object a b) ≡ part_from (part_object a b)
part_form_is a b = refl

part_said : (d : Data) (part : PartCover) → SaysPart d part → part_of d ≡ Ok part
part_said d part h = ap part_of h.is ∙ (part_form_is h.a h.b ∙ (ap part_from (sym h.is) ∙ part_from_said d part h))

-- ---- steps

narrowed : {A F G : Type 0} (into : F → G) (r : Result A F) (x : A) → widened into r ≡ Ok x → r ≡ Ok x
narrowed into (Ok y) x e = cc e
narrowed into (Err f) x e = cc e

module _ (policy : Policy) where
  steps_are : (ds : List Data) (steps : List Step) → steps_of policy.params ds ≡ Ok steps → AllZip (SaysOwnStep policy) ds steps
  steps_are ds steps e =
      each_zip (step_at policy.params 0 LAST_VERSION) (SaysOwnStep policy) (step_is policy.params 0 LAST_VERSION) ds steps
      (narrowed (λ (fault : ProofFault). NoForm) (each (step_at policy.params 0 LAST_VERSION) ds) steps e)

  steps_said : (ds : List Data) (steps : List Step) → AllZip (SaysOwnStep policy) ds steps → steps_of policy.params ds ≡ Ok steps
  steps_said ds steps z =
      ap (widened (λ (fault : ProofFault). NoForm)) (zip_each (step_at policy.params 0 LAST_VERSION) (SaysOwnStep policy) (step_said policy.params 0 LAST_VERSION) ds steps z)

  -- ---- evidence

  -- the name of the evidence, and what the items say
  pub record Named (name : List ℕ) (ds : List Data) (it : Evidence) : Type 0 where
    pub called : name ≡ by_name (by_of it)
    pub says : SaysEvidence policy (list_json ds) it

  pub named_is : (name : List ℕ) (ds : List Data) (it : Evidence) → evidence_named policy.params name ds ≡ Ok it → Named name ds it
  unfolding evidence_named
  named_is name ds it e =
      choose (Named name ds it) (bytes_eq name (codes "cover")) _ _ it e
      (λ b h. (let parts = bound (each part_of ds) (λ parts. Ok (evidence.Cover (cover_with parts))) it h in
      subst (Named name ds) (ok_is {F = FormFault} (evidence.Cover (cover_with parts.0)) it parts.2)
      (record { called = same_text name (codes "cover") b; says = record { ds = ds; is = refl; said = each_zip part_of SaysPart part_is ds parts.0 parts.1 } })))
      (λ e1. choose (Named name ds it) (bytes_eq name (codes "template")) _ _ it e1
      (λ b h. (let steps = bound (steps_of policy.params ds) (λ steps. Ok (evidence.Template steps)) it h in
      subst (Named name ds) (ok_is {F = FormFault} (evidence.Template steps.0) it steps.2)
      (record { called = same_text name (codes "template") b; says = record { ds = ds; is = refl; said = steps_are ds steps.0 steps.1 } })))
      (λ e2. choose (Named name ds it) (bytes_eq name (codes "proof")) _ _ it e2
      (λ b h. (let steps = bound (steps_of policy.params ds) (λ steps. Ok (evidence.Proof steps)) it h in
      subst (Named name ds) (ok_is {F = FormFault} (evidence.Proof steps.0) it steps.2)
      (record { called = same_text name (codes "proof") b; says = record { ds = ds; is = refl; said = steps_are ds steps.0 steps.1 } })))
      (λ e3. cc e3)))

  -- what the fields `by` and `proof` say
  pub record EvidenceThere (a b : Data) (it : Evidence) : Type 0 where
    pub called : a ≡ string (by_name (by_of it))
    pub says : SaysEvidence policy b it

  pub evidence_is : (d a b : Data) (it : Evidence) → get (codes "by") d ≡ Some a → get (codes "proof") d ≡ Some b → evidence_in policy.params d ≡ Ok it → EvidenceThere a b it
  unfolding evidence_in
  evidence_is d a b it in_by in_proof e =
      let name = bound (text_in (codes "by") d) (λ name. (field (codes "proof") d >>= list_of >>= evidence_named policy.params name)) it e in
      let items = bound (field (codes "proof") d >>= list_of) (evidence_named policy.params name.0) it name.2 in
      let list = bound (field (codes "proof") d) list_of items.0 items.1 in
      let named = named_is name.0 items.0 it items.2 in
      let is : b ≡ list_json items.0 = field_is (codes "proof") d b list.0 in_proof list.1 ∙ list_of_is list.0 items.0 list.2 in
      record {
        called = text_in_is (codes "by") d a name.0 in_by name.1 ∙ ap string named.called;
        says = subst (λ x. SaysEvidence policy x it) (sym is) named.says;
      }

  pub cover_said : (ds : List Data) (parts : List PartCover) → AllZip SaysPart ds parts → evidence_named policy.params (codes "cover") ds ≡ Ok (evidence.Cover (cover_with parts))
  unfolding evidence_named
  cover_said ds parts z = ap (λ r. r >>= λ it. Ok (evidence.Cover (cover_with it))) (zip_each part_of SaysPart part_said ds parts z)

  pub template_said : (ds : List Data) (steps : List Step) → AllZip (SaysOwnStep policy) ds steps → evidence_named policy.params (codes "template") ds ≡ Ok (evidence.Template steps)
  unfolding evidence_named
  template_said ds steps z = ap (λ r. r >>= λ it. Ok (evidence.Template it)) (steps_said ds steps z)

  pub proof_said : (ds : List Data) (steps : List Step) → AllZip (SaysOwnStep policy) ds steps → evidence_named policy.params (codes "proof") ds ≡ Ok (evidence.Proof steps)
  unfolding evidence_named
  proof_said ds steps z = ap (λ r. r >>= λ it. Ok (evidence.Proof it)) (steps_said ds steps z)

  in_is : (d : Data) (name : List ℕ) (ds : List Data) → get (codes "by") d ≡ Some (string name) → get (codes "proof") d ≡ Some (list_json ds)
      → evidence_in policy.params d ≡ evidence_named policy.params name ds
  unfolding evidence_in
  in_is d name ds in_by in_proof =
      ap (λ r. r >>= λ it. (field (codes "proof") d >>= list_of >>= evidence_named policy.params it)) (text_in_said (codes "by") d name in_by)
      ∙ (ap (λ r. r >>= list_of >>= evidence_named policy.params name) (field_said (codes "proof") d (list_json ds) in_proof)
      ∙ ap (λ r. r >>= evidence_named policy.params name) (list_of_said ds))

  pub evidence_said : (d b : Data) (it : Evidence) → get (codes "by") d ≡ Some (string (by_name (by_of it))) → get (codes "proof") d ≡ Some b → SaysEvidence policy b it
      → evidence_in policy.params d ≡ Ok it
  evidence_said d b (evidence.Cover cover) in_by in_proof h =
      in_is d (codes "cover") h.ds in_by (in_proof ∙ ap Some h.is) ∙ cover_said h.ds cover.parts h.said
  evidence_said d b (evidence.Template steps) in_by in_proof h =
      in_is d (codes "template") h.ds in_by (in_proof ∙ ap Some h.is) ∙ template_said h.ds steps h.said
  evidence_said d b (evidence.Proof steps) in_by in_proof h =
      in_is d (codes "proof") h.ds in_by (in_proof ∙ ap Some h.is) ∙ proof_said h.ds steps h.said
