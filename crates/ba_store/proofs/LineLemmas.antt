-- What a line comes to, and lines one after another.
use Rattle.std.proofs.Common.{◌≡◌, ◌∙◌, ℕ, suc, zero, ◌+◌, ◌<◌, ◌≤◌, List, [], ◌∷◌, ◌++◌, length, map, refl, sym, ap, ap₂, subst, arith, append_assoc}
use Rattle.std.specs.Prelude.{Option, Some, None, Result, Ok, Err, ⊤}
use Rattle.std.specs.List.{AllByRecursion, AllZip}
use Rattle.std.proofs.lemmas.List.{append-nil, length-append}
use Rattle.ba_model.specs.Readings.{Fails, Gives, widened}
use Rattle.ba_model.specs.Limits.{most_templates}
use Rattle.ba_model.specs.declared.failure.Failure.{Failure}
use Rattle.ba_model.specs.declared.failure.Failure.TheVariants.{NoMemory, Fault}
use Rattle.ba_model.specs.declared.policy.Policy.{Policy}
use Rattle.ba_kernel.specs.Replays.{Closes}
use Rattle.ba_kernel.specs.SearchStates.{Proof}
use Rattle.ba_proof.specs.declared.proof.Proof.{Proof as Draft}
use Rattle.ba_store.proofs.LoadLemmas.{widened_ok}
use Rattle.ba_store.specs.Loads.{Answers, FewLoad, HasBadLine, IsBadLine, IsLineOf, LineLoads, LinesLoad, Loads, Proves, at_line, few, lines_of, many, unproved, unread}
use Rattle.ba_store.specs.Reading.{draft_of, draft_with}
use Rattle.ba_store.specs.declared.fault.LineFault.{LineFault}
use Rattle.ba_store.specs.declared.fault.StoreFault.{StoreFault}
use Rattle.ba_store.specs.declared.fault.StoreFault.TheVariants as store

-- ---- one line

module _ (policy : Policy) (number : ℕ) (bytes : List ℕ) where
  -- what it says proves nothing else than what it is
  proved_loads : (draft : Draft) (it : Proof) → draft_of policy bytes ≡ Ok draft → Proves number draft (Ok it) → IsLineOf policy bytes it
  proved_loads draft it said h =
      record {
        says = said ∙ ap₂ (λ p all. Ok (draft_with p all)) (sym h.1) (sym h.2);
        closes = subst (λ p. Closes p it.steps) (sym h.1) (subst (Closes draft.problem) (sym h.2) h.0);
      }

  pub line_loads : (draft : Draft) (r : Result Proof (Failure StoreFault)) → widened (at_line number) (draft_of policy bytes) ≡ Ok draft → Answers r (Proves number draft)
      → Answers r (LineLoads policy number bytes)
  line_loads draft (Ok it) said h = proved_loads draft it (widened_ok (at_line number) (draft_of policy bytes) draft said) h
  line_loads draft (Err NoMemory) said h = tt
  line_loads draft (Err (Fault fault)) said h = unproved draft (widened_ok (at_line number) (draft_of policy bytes) draft said) h

  unread_by : (r : Result Draft LineFault) (fault : StoreFault) → draft_of policy bytes ≡ r → widened (at_line number) r ≡ Err fault → IsBadLine policy number bytes fault
  unread_by (Ok draft) fault said e = cc e
  unread_by (Err f) fault said e = let same : at_line number f ≡ fault = cc e in subst (IsBadLine policy number bytes) same (unread said)

  pub line_unread : (e : Failure StoreFault) → Fails e (widened (at_line number) (draft_of policy bytes)) → Answers {Y = Proof} (Err e) (LineLoads policy number bytes)
  line_unread NoMemory h = tt
  line_unread (Fault fault) h = unread_by (draft_of policy bytes) fault refl h

-- ---- lines one after another

-- these lines were read as these templates, and those are left
pub record ReadSoFar (policy : Policy) (lines rest : List (List ℕ)) (found : List Proof) : Type 0 where
  pub front : List (List ℕ)
  pub splits : lines ≡ front ++ rest
  pub templates : AllZip (IsLineOf policy) front found

module _ (policy : Policy) (lines : List (List ℕ)) where
  pub none_so_far : (found : List Proof) → found ≡ [] → ReadSoFar policy lines lines found
  none_so_far found e = record { front = []; splits = refl; templates = subst (AllZip (IsLineOf policy) []) (sym e) tt }

  zip_more : (front : List (List ℕ)) (found : List Proof) (bytes : List ℕ) (it : Proof) → AllZip (IsLineOf policy) front found → IsLineOf policy bytes it
      → AllZip (IsLineOf policy) (front ++ bytes ∷ []) (found ++ it ∷ [])
  zip_more [] [] bytes it z h = (h, tt)
  zip_more [] (x ∷ found) bytes it z h = absurd z
  zip_more (line ∷ front) [] bytes it z h = absurd z
  zip_more (line ∷ front) (x ∷ found) bytes it z h = (z.0, zip_more front found bytes it z.1 h)

  zip_long : (front : List (List ℕ)) (found : List Proof) → AllZip (IsLineOf policy) front found → length front ≡ length found
  zip_long [] [] z = refl
  zip_long [] (x ∷ found) z = absurd z
  zip_long (line ∷ front) [] z = absurd z
  zip_long (line ∷ front) (x ∷ found) z = ap suc (zip_long front found z.1)

  pub one_more : (bytes : List ℕ) (left rest : List (List ℕ)) (found more : List Proof) (it : Proof) → ReadSoFar policy lines left found → left ≡ bytes ∷ rest → IsLineOf policy bytes it
      → more ≡ found ++ it ∷ [] → ReadSoFar policy lines rest more
  one_more bytes left rest found more it so_far next h e =
      record {
        front = so_far.front ++ bytes ∷ [];
        splits = so_far.splits ∙ ap (λ ls. so_far.front ++ ls) next ∙ sym (append_assoc so_far.front (bytes ∷ []) rest);
        templates = subst (AllZip (IsLineOf policy) (so_far.front ++ bytes ∷ [])) (sym e) (zip_more so_far.front found bytes it so_far.templates h);
      }

  pub few_more : (bytes : List ℕ) (left rest : List (List ℕ)) (found more : List Proof) (it : Proof) (most : ℕ) → left ≡ bytes ∷ rest → more ≡ found ++ it ∷ []
      → length found + length left ≤ most → length more + length rest ≤ most
  few_more bytes left rest found more it most next e h = omega (arith, ap length next, ap length e, length-append found (it ∷ []), h)

  pub bad_next : (bytes : List ℕ) (left rest : List (List ℕ)) (found : List Proof) (number : ℕ) (e : Failure StoreFault) → ReadSoFar policy lines left found → left ≡ bytes ∷ rest
      → number ≡ length found + 1 → Answers {Y = Proof} (Err e) (LineLoads policy number bytes) → Answers {Y = List Proof} (Err e) (LinesLoad policy lines)
  bad_next bytes left rest found number NoMemory so_far next is h = tt
  bad_next bytes left rest found number (Fault fault) so_far next is h =
      record {
        front = so_far.front;
        bytes = bytes;
        rest = rest;
        before = found;
        splits = so_far.splits ∙ ap (λ ls. so_far.front ++ ls) next;
        templates = so_far.templates;
        bad = subst (λ n. IsBadLine policy n bytes fault) (is ∙ ap (λ n. n + 1) (sym (zip_long so_far.front found so_far.templates))) h;
      }

  pub all_so_far : (left : List (List ℕ)) (found : List Proof) → ReadSoFar policy lines left found → left ≡ [] → AllZip (IsLineOf policy) lines found
  all_so_far left found so_far none =
      subst (λ ls. AllZip (IsLineOf policy) ls found) (sym (so_far.splits ∙ ap (λ ls. so_far.front ++ ls) none ∙ append-nil so_far.front)) so_far.templates

-- ---- the file

pub file_loads : (policy : Policy) (bytes : List ℕ) (r : Result (List Proof) (Failure StoreFault)) → length (lines_of bytes) ≤ most_templates → Answers r (LinesLoad policy (lines_of bytes))
    → Answers r (Loads policy bytes)
file_loads policy bytes (Ok templates) within h = few (record { few = within; lines_load = h })
file_loads policy bytes (Err NoMemory) within h = tt
file_loads policy bytes (Err (Fault fault)) within h = few (record { few = within; lines_load = h })

pub zip_length : (policy : Policy) (lines : List (List ℕ)) (templates : List Proof) → AllZip (IsLineOf policy) lines templates → length templates ≡ length lines
zip_length policy [] [] z = refl
zip_length policy [] (x ∷ templates) z = absurd z
zip_length policy (line ∷ lines) [] z = absurd z
zip_length policy (line ∷ lines) (x ∷ templates) z = ap suc (zip_length policy lines templates z.1)
