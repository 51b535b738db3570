-- One more line is served.
use Rattle.std.proofs.Common.{◌≡◌, ◌∙◌, ℕ, Bool, ◌+◌, ◌-◌, ◌^◌, List, [], ◌∷◌, ◌++◌, Option, Some, None, Ok, Err, length, refl, sym, ap, subst, inl, inr, arith, append_assoc, length-append}
use Rattle.std.specs.List.{AllZip}
use Rattle.ba_judge.specs.Shelves.{Learns}
use Rattle.ba_judge.specs.declared.shelves.Shelves.{Shelves}
use Rattle.ba_live.proofs.LiveLemmas.{same_shelves}
use Rattle.ba_judge.specs.Judging.{effort_in}
use Rattle.ba_live.specs.declared.live.Live.{Live}
use Rattle.ba_outside.specs.Seen.{SinkSeen}
use Rattle.ba_outside.specs.declared.sink.WriteFail.{WriteFail}
use Rattle.ba_outside.specs.declared.sink.WriteFail.TheVariants.{Failed, NoMemory}
use Rattle.ba_plan.proofs.SendingLines.{lines_none, lines_then}
use Rattle.ba_plan.specs.Sent.{SentLines, WroteLines}
use Rattle.ba_settle.specs.Settling.{Effort}
use Rattle.ba_source.specs.Seen.{SourceSeen}
use Rattle.ba_decide.specs.Journal.{Entry, Heard, Runs, Serves}
use Rattle.ba_decide.specs.Journal.Runs.{none, next}
use Rattle.ba_decide.specs.Ran.{BreaksOff, EndsBy, Hears, HearsAll, HearsEnd, HearsFault, HearsLine, HearsLines, IsHeardOf, Says, Served, Serving, Took, entry}
use Rattle.ba_decide.specs.Evident.{IsTextOf}
use Rattle.ba_decide.specs.declared.serve.Answer.{Answer}
use Rattle.ba_decide.specs.declared.top.Ending.{Ending}
use Rattle.ba_decide.specs.declared.top.Ending.TheVariants as ending

-- ---- what was heard

lines_of_none : (left : Option (List (List ℕ))) → HearsLines [] left left
lines_of_none None = refl
lines_of_none (Some lines) = ([], lines, refl, refl, tt)

zip_push : {A B : Type 0} (R : A → B → Type 0) (xs : List A) (ys : List B) (x : A) (y : B) → AllZip R xs ys → R x y → AllZip R (xs ++ x ∷ []) (ys ++ y ∷ [])
zip_push R [] [] x y h r = (r, tt)
zip_push R [] (b ∷ ys) x y h r = absurd h
zip_push R (a ∷ xs) [] x y h r = absurd h
zip_push R (a ∷ xs) (b ∷ ys) x y h r = (h.0, zip_push R xs ys x y h.1 r)

same_some : {X : Type 0} (x y : X) → Some x ≡ Some y → x ≡ y
same_some x y e = cc

lines_more : (journal : List Entry) (it : Entry) (source left later : Option (List (List ℕ))) → HearsLines journal source left → HearsLine it.heard left later → HearsLines (journal ++ it ∷ []) source later
lines_more journal it None left later h l = subst (λ o. HearsLine it.heard o later) h l
lines_more journal it (Some lines) left later h l =
    let (front, rest, are, left_is, zip) = h in
    let (line, behind, split, later_is, heard) = subst (λ o. HearsLine it.heard o later) left_is l in
    (front ++ line ∷ [], behind, are ∙ (ap (λ r. front ++ r) split ∙ sym (append_assoc front (line ∷ []) behind)), later_is, zip_push (λ one (e : Entry). IsHeardOf one e.heard) front journal line it zip heard)

took_more : (count before between now : ℕ) → Took count before between → Took 1 between now → Took (count + 1) before now
took_more count before between now h k = omega (arith, h, k)

hears_none : (source : SourceSeen) → HearsAll [] source source
hears_none source = record { lines = lines_of_none source.left; taken = omega arith; faults = refl }

hears_more : (journal : List Entry) (it : Entry) (source left later : SourceSeen) → HearsAll journal source left → Hears it.heard left later → HearsAll (journal ++ it ∷ []) source later
hears_more journal it source left later all one =
    record {
      lines = lines_more journal it source.left left.left later.left all.lines one.line;
      taken = subst (λ n. Took n source.taken later.taken) (sym (length-append journal (it ∷ []))) (took_more (length journal) source.taken left.taken later.taken all.taken one.taken);
      faults = one.faults ∙ all.faults;
    }

-- ---- texts

texts_length : (evidence : Bool) (effort : Effort) (start now : Live) (journal : List Entry) (texts : List (List ℕ)) → Runs evidence effort start journal texts now → length texts ≡ length journal
texts_length evidence effort start now [] [] none = refl
texts_length evidence effort start now _ _ (next {earlier = earlier} {texts = texts} {old = old} it text rest serves is) =
    omega (arith, texts_length evidence effort start old earlier texts rest, length-append texts (text ∷ []), length-append earlier (it ∷ []))

-- ---- lines served

pub serving_start : (evidence : Bool) (effort : Effort) (start : Live) (source : SourceSeen) (sink : SinkSeen) → Serving evidence effort start start 1 source source sink sink
serving_start evidence effort start source sink =
    record { journal = []; texts = []; runs = none; number_is = refl; hears = hears_none source; wrote = lines_none sink }

pub serving_more : (evidence : Bool) (effort : Effort) (start now then : Live) (number : ℕ) (source left later : SourceSeen) (old new after : SinkSeen) (heard : Heard) (it : Answer) (text : List ℕ)
    → Serving evidence effort start now number source left old new → Hears heard left later → Serves effort number (entry heard it) now then → IsTextOf evidence then number it.subject it.decision text
    → WroteLines (text ∷ []) new after → Serving evidence effort start then (number + 1) source later old after
serving_more evidence effort start now then number source left later old new after heard it text so hears serves is wrote =
    let one = entry heard it in
    record {
      journal = so.journal ++ one ∷ [];
      texts = so.texts ++ text ∷ [];
      runs = next one text so.runs (subst (λ n. Serves effort n one now then) so.number_is serves) (subst (λ n. IsTextOf evidence then n it.subject it.decision text) so.number_is is);
      number_is = omega (arith, so.number_is, length-append so.journal (one ∷ []));
      hears = hears_more so.journal one source left later so.hears hears;
      wrote = lines_then {X = Unit {0}} old new after so.texts (text ∷ []) (Ok tt) so.wrote wrote;
    }

pub served_done : (evidence : Bool) (effort : Effort) (start now : Live) (number : ℕ) (source left later : SourceSeen) (old new : SinkSeen) → Serving evidence effort start now number source left old new → HearsEnd left later
    → Served evidence effort start ending.Done source later old new
served_done evidence effort start now number source left later old new so end =
    record { journal = so.journal; last = now; runs = so.runs; heard = left; hears = so.hears; texts = so.texts; ends = (so.wrote, inl end) }

pub served_read : (evidence : Bool) (effort : Effort) (start now : Live) (number : ℕ) (source left later : SourceSeen) (old new : SinkSeen) → Serving evidence effort start now number source left old new → HearsFault left later
    → Served evidence effort start ending.Read source later old new
served_read evidence effort start now number source left later old new so fault =
    record { journal = so.journal; last = now; runs = so.runs; heard = left; hears = so.hears; texts = so.texts; ends = (so.wrote, fault) }

pub served_full : (evidence : Bool) (effort : Effort) (start now : Live) (number : ℕ) (source left : SourceSeen) (old new : SinkSeen) → Serving evidence effort start now number source left old new → number ≡ 2 ^ 64 - 1
    → Served evidence effort start ending.Done source left old new
served_full evidence effort start now number source left old new so most =
    record {
      journal = so.journal;
      last = now;
      runs = so.runs;
      heard = left;
      hears = so.hears;
      texts = so.texts;
      ends = (so.wrote, inr (omega (arith, so.number_is, most, texts_length evidence effort start now so.journal so.texts so.runs), refl));
    }

breaks : (why : WriteFail) (texts : List (List ℕ)) (text : List ℕ) (old new after : SinkSeen) → WroteLines texts old new → SentLines {X = Unit {0}} (text ∷ []) new after (Err why) → BreaksOff why (texts ++ text ∷ []) old after
breaks why texts text old new after wrote part = record { earlier = texts; last = text; are = refl; sink = new; whole = wrote; part = part }

module _ (evidence : Bool) (effort : Effort) (start now then : Live) (number : ℕ) (source left later : SourceSeen) (old new after : SinkSeen) (heard : Heard) (it : Answer) (text : List ℕ)
    (so : Serving evidence effort start now number source left old new) (hears : Hears heard left later) (serves : Serves effort number (entry heard it) now then) (is : IsTextOf evidence then number it.subject it.decision text) where
  broken : (how : Ending) → EndsBy how (so.texts ++ text ∷ []) later later old after → Served evidence effort start how source later old after
  broken how ends =
      record {
        journal = so.journal ++ entry heard it ∷ [];
        last = then;
        runs = next (entry heard it) text so.runs (subst (λ n. Serves effort n (entry heard it) now then) so.number_is serves) (subst (λ n. IsTextOf evidence then n it.subject it.decision text) so.number_is is);
        heard = later;
        hears = hears_more so.journal (entry heard it) source left later so.hears hears;
        texts = so.texts ++ text ∷ [];
        ends = ends;
      }

  pub served_write : SentLines {X = Unit {0}} (text ∷ []) new after (Err Failed) → Served evidence effort start ending.Write source later old after
  served_write part = broken ending.Write (breaks Failed so.texts text old new after so.wrote part, refl)

  pub served_memory : SentLines {X = Unit {0}} (text ∷ []) new after (Err NoMemory) → Served evidence effort start ending.Memory source later old after
  served_memory part = broken ending.Memory (breaks NoMemory so.texts text old new after so.wrote part, refl)

-- ---- an answered line, by the budget that the service has

module _ (evidence : Bool) (orders : ℕ) (start now then : Live) (number : ℕ) (source left later : SourceSeen) (old new after : SinkSeen) (it : Answer) (same : now.budget ≡ start.budget)
    (so : Serving evidence (effort_in orders start.budget) start now number source left old new)
    (n : (heard : Heard) × Hears heard left later × Serves (effort_in orders now.budget) number (entry heard it) now then) where
  its : Serves (effort_in orders start.budget) number (entry n.0 it) now then
  its = subst (λ b. Serves (effort_in orders b) number (entry n.0 it) now then) same n.2

  pub answered_budget : then.budget ≡ start.budget
  answered_budget = n.2.stays.budget ∙ same

  pub answered_more : {X : Type 0} (x : X) → Says {X = X} evidence then number it new after (Ok x) → Serving evidence (effort_in orders start.budget) start then (number + 1) source later old after
  answered_more x (text, is, wrote) = serving_more evidence (effort_in orders start.budget) start now then number source left later old new after n.0 it text so n.1 its is wrote

  pub answered_write : Says {X = Unit {0}} evidence then number it new after (Err Failed) → Served evidence (effort_in orders start.budget) start ending.Write source later old after
  answered_write (text, is, part) = served_write evidence (effort_in orders start.budget) start now then number source left later old new after n.0 it text so n.1 its is part

  pub answered_memory : Says {X = Unit {0}} evidence then number it new after (Err NoMemory) → Served evidence (effort_in orders start.budget) start ending.Memory source later old after
  answered_memory (text, is, part) = served_memory evidence (effort_in orders start.budget) start now then number source left later old new after n.0 it text so n.1 its is part

-- a line that changes nothing leaves the shelves
pub learns_nothing : (it : Shelves) → Learns it it
learns_nothing it = same_shelves it
