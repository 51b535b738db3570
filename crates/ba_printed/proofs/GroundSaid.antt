-- What the queries of a read rest on is read exactly where it is said.
use Rattle.std.proofs.Common.{◌≡◌, ◌∙◌, ℕ, suc, List, [], ◌∷◌, length, map, Result, Ok, Err, refl, sym, ap, subst, arith, codes}
use Rattle.std.specs.List.{AllZip}
use Rattle.serde_json.specs.Data.{Data, string}
use Rattle.ba_model.specs.Readings.{◌>>=◌, each}
use Rattle.ba_model.specs.declared.policy.Policy.{Policy}
use Rattle.ba_kernel.specs.declared.step.Step.{Step}
use Rattle.ba_proof.proofs.FitLemmas.{bound}
use Rattle.ba_proof.specs.Written.{list_json}
use Rattle.ba_wire.specs.Printed.{by_name}
use Rattle.ba_wire.specs.declared.line.By.{By}
use Rattle.ba_printed.proofs.EvidenceSaid.{cover_said, named_is, proof_said, template_said}
use Rattle.ba_printed.proofs.FieldLemmas.{each_zip, list_of_is, list_of_said, ok_is, text_of_is}
use Rattle.ba_printed.proofs.NameSaid.{by_at_is, by_at_said}
use Rattle.ba_printed.specs.Reading.{by_at, evidence_named, ground_of, grounds_of, or_steps, unnamed_of}
use Rattle.ba_printed.specs.Says.{SaysEvidence, SaysOwnStep, by_of}
use Rattle.ba_printed.specs.Shapes.{list_of, text_of}
use Rattle.ba_printed.specs.declared.line.Evidence.{Evidence}
use Rattle.ba_printed.specs.declared.line.Evidence.TheVariants as evidence
use Rattle.ba_printed.specs.declared.shapes.FormFault.{FormFault}

-- ---- names

-- the strings of the names
abbrev pub called : List By → List Data
called bys = map (λ by. string (by_name by)) bys

pub names_are : (ds : List Data) (bys : List By) → each by_at ds ≡ Ok bys → ds ≡ called bys
names_are [] bys e = ap called (ok_is {F = FormFault} [] bys e)
names_are (d ∷ ds) bys e =
    let first = bound (by_at d) (λ by. (each by_at ds >>= λ more. Ok (by ∷ more))) bys e in
    let rest = bound (each by_at ds) (λ more. Ok (first.0 ∷ more)) bys first.2 in
    ap (λ x. x ∷ ds) (by_at_is d first.0 first.1)
    ∙ (ap (λ xs. string (by_name first.0) ∷ xs) (names_are ds rest.0 rest.1)
    ∙ ap called (ok_is {F = FormFault} (first.0 ∷ rest.0) bys rest.2))

pub names_said : (bys : List By) → each by_at (called bys) ≡ Ok bys
names_said [] = refl
names_said (by ∷ bys) = rw (by_at_said by, names_said bys) refl

pub called_length : (bys : List By) → length (called bys) ≡ length bys
called_length [] = refl
called_length (by ∷ bys) = ap suc (called_length bys)

pub bys_length : (its : List Evidence) → length (map by_of its) ≡ length its
bys_length [] = refl
bys_length (it ∷ its) = ap suc (bys_length its)

module _ (policy : Policy) where
  -- ---- each by its name

  record Ground (name proof : Data) (it : Evidence) : Type 0 where
    name_is : name ≡ string (by_name (by_of it))
    says : SaysEvidence policy proof it

  ground_is : (name proof : Data) (it : Evidence) → ground_of policy.params name proof ≡ Ok it → Ground name proof it
  unfolding ground_of
  ground_is name proof it e =
      let s = bound (text_of name) (λ s. (list_of proof >>= evidence_named policy.params s)) it e in
      let items = bound (list_of proof) (evidence_named policy.params s.0) it s.2 in
      let named = named_is policy s.0 items.0 it items.2 in
      record {
        name_is = text_of_is name s.0 s.1 ∙ ap string named.called;
        says = subst (λ x. SaysEvidence policy x it) (sym (list_of_is proof items.0 items.1)) named.says;
      }

  ground_form : (name : List ℕ) (ds : List Data) → ground_of policy.params (string name) (list_json ds) ≡ evidence_named policy.params name ds
  unfolding ground_of
  ground_form name ds = ap (λ r. r >>= evidence_named policy.params name) (list_of_said ds)

  ground_said : (proof : Data) (it : Evidence) → SaysEvidence policy proof it → ground_of policy.params (string (by_name (by_of it))) proof ≡ Ok it
  ground_said proof (evidence.Cover cover) h =
      ap (ground_of policy.params (string (codes "cover"))) h.is ∙ (ground_form (codes "cover") h.ds ∙ cover_said policy h.ds cover.parts h.said)
  ground_said proof (evidence.Template steps) h =
      ap (ground_of policy.params (string (codes "template"))) h.is ∙ (ground_form (codes "template") h.ds ∙ template_said policy h.ds steps h.said)
  ground_said proof (evidence.Proof steps) h =
      ap (ground_of policy.params (string (codes "proof"))) h.is ∙ (ground_form (codes "proof") h.ds ∙ proof_said policy h.ds steps h.said)

  pub record Grounds (names proofs : List Data) (its : List Evidence) : Type 0 where
    pub called_so : names ≡ called (map by_of its)
    pub say : AllZip (SaysEvidence policy) proofs its

  pub grounds_are : (names proofs : List Data) (its : List Evidence) → length names ≡ length proofs → grounds_of policy.params names proofs ≡ Ok its → Grounds names proofs its
  grounds_are [] [] its same e = subst (Grounds [] []) (ok_is {F = FormFault} [] its e) (record { called_so = refl; say = tt })
  grounds_are [] (proof ∷ proofs) its same e = absurd (omega (arith, same))
  grounds_are (name ∷ names) [] its same e = absurd (omega (arith, same))
  grounds_are (name ∷ names) (proof ∷ proofs) its same e =
      let first = bound (ground_of policy.params name proof) (λ it. (grounds_of policy.params names proofs >>= λ more. Ok (it ∷ more))) its e in
      let rest = bound (grounds_of policy.params names proofs) (λ more. Ok (first.0 ∷ more)) its first.2 in
      let one = ground_is name proof first.0 first.1 in
      let more = grounds_are names proofs rest.0 (omega (arith, same)) rest.1 in
      subst (Grounds (name ∷ names) (proof ∷ proofs)) (ok_is {F = FormFault} (first.0 ∷ rest.0) its rest.2)
      (record {
        called_so = ap (λ x. x ∷ names) one.name_is ∙ ap (λ xs. string (by_name (by_of first.0)) ∷ xs) more.called_so;
        say = (one.says, more.say);
      })

  pub grounds_said : (proofs : List Data) (its : List Evidence) → AllZip (SaysEvidence policy) proofs its → grounds_of policy.params (called (map by_of its)) proofs ≡ Ok its
  grounds_said [] [] z = refl
  grounds_said [] (it ∷ its) z = absurd z
  grounds_said (proof ∷ proofs) [] z = absurd z
  grounds_said (proof ∷ proofs) (it ∷ its) z = rw (ground_said proof it z.0, grounds_said proofs its z.1) refl

  -- ---- without names

  or_is : (ds : List Data) (r : Result Evidence FormFault) (it : Evidence) → evidence_named policy.params (codes "cover") ds ≡ r → or_steps policy.params ds r ≡ Ok it
      → SaysEvidence policy (list_json ds) it
  or_is ds (Ok x) it is e = let named = named_is policy (codes "cover") ds it (is ∙ e) in named.says
  or_is ds (Err fault) it is e = let named = named_is policy (codes "proof") ds it e in named.says

  unnamed_is : (d : Data) (it : Evidence) → unnamed_of policy.params d ≡ Ok it → SaysEvidence policy d it
  unfolding unnamed_of
  unnamed_is d it e =
      let items = bound (list_of d) (λ ds. or_steps policy.params ds (evidence_named policy.params (codes "cover") ds)) it e in
      subst (λ x. SaysEvidence policy x it) (sym (list_of_is d items.0 items.1))
      (or_is items.0 (evidence_named policy.params (codes "cover") items.0) it refl items.2)

  pub proofs_are : (ds : List Data) (its : List Evidence) → each (unnamed_of policy.params) ds ≡ Ok its → AllZip (SaysEvidence policy) ds its
  proofs_are ds its e = each_zip (unnamed_of policy.params) (SaysEvidence policy) unnamed_is ds its e

  unnamed_form : (ds : List Data) → unnamed_of policy.params (list_json ds) ≡ or_steps policy.params ds (evidence_named policy.params (codes "cover") ds)
  unfolding unnamed_of
  unnamed_form ds = ap (λ r. r >>= λ it. or_steps policy.params it (evidence_named policy.params (codes "cover") it)) (list_of_said ds)

  -- it is read as some evidence
  abbrev IsRead : Data → Type 0
  IsRead d = (it : Evidence) × (unnamed_of policy.params d ≡ Ok it)

  or_said : (ds : List Data) (r : Result Evidence FormFault) (steps : List Step) → evidence_named policy.params (codes "proof") ds ≡ Ok (evidence.Proof steps)
      → (it : Evidence) × (or_steps policy.params ds r ≡ Ok it)
  or_said ds (Ok x) steps e = (x, refl)
  or_said ds (Err fault) steps e = (evidence.Proof steps, e)

  steps_read : (d : Data) (ds : List Data) (steps : List Step) → d ≡ list_json ds → AllZip (SaysOwnStep policy) ds steps → IsRead d
  steps_read d ds steps is z =
      let found = or_said ds (evidence_named policy.params (codes "cover") ds) steps (proof_said policy ds steps z) in
      (found.0, ap (unnamed_of policy.params) is ∙ (unnamed_form ds ∙ found.1))

  unnamed_said : (d : Data) (it : Evidence) → SaysEvidence policy d it → IsRead d
  unnamed_said d (evidence.Cover cover) h =
      (evidence.Cover cover, ap (unnamed_of policy.params) h.is ∙ (unnamed_form h.ds ∙ ap (or_steps policy.params h.ds) (cover_said policy h.ds cover.parts h.said)))
  unnamed_said d (evidence.Template steps) h = steps_read d h.ds steps h.is h.said
  unnamed_said d (evidence.Proof steps) h = steps_read d h.ds steps h.is h.said

  pub proofs_said : (ds : List Data) (its : List Evidence) → AllZip (SaysEvidence policy) ds its → (others : List Evidence) × (each (unnamed_of policy.params) ds ≡ Ok others)
  proofs_said [] [] z = ([], refl)
  proofs_said [] (it ∷ its) z = absurd z
  proofs_said (d ∷ ds) [] z = absurd z
  proofs_said (d ∷ ds) (it ∷ its) z =
      let first = unnamed_said d it z.0 in
      let rest = proofs_said ds its z.1 in
      (first.0 ∷ rest.0, rw (first.1, rest.1) refl)
