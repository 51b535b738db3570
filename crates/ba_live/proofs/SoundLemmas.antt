-- A decision service stays sound.
use Rattle.std.proofs.Common.{◌≡◌, ◌∙◌, ℕ, ◌+◌, ◌≤◌, List, [], ◌∷◌, ◌++◌, Bool, true, false, cond, Option, Some, None, refl, sym, ap, subst, inl, inr, arith}
use Rattle.std.proofs.lemmas.List.Elements.{All-append, All-contains, All-nil, Contains-append_left, Contains-push, Contains-push_cases}
use Rattle.std.specs.List.{All, Contains}
use Rattle.std.specs.Str.{bytes_eq}
use Rattle.ba_comply.proofs.ComplyLemmas.{All-from_contains}
use Rattle.ba_comply.specs.declared.trace.TraceEntry.{TraceEntry}
use Rattle.ba_kernel.specs.Asked.{RecordFits}
use Rattle.ba_model.specs.Fit.{ContextFits, IsQuery, kinds_of}
use Rattle.ba_model.specs.Limits.{most_budget}
use Rattle.ba_model.specs.declared.policy.Context.{Context}
use Rattle.ba_model.specs.declared.policy.Policy.{Policy}
use Rattle.ba_model.specs.declared.query.Query.{Query}
use Rattle.ba_live.proofs.BookLemmas.{asked_after, expects_away, expects_here, none_some, opened_at, opens_away, opens_here, same_some, without_has, without_not, without_within, bytes_equal, bytes_same}
use Rattle.ba_live.proofs.BookLemmas.At.{this, that}
use Rattle.ba_live.specs.Askers.{new_open, with_line, with_told, without}
use Rattle.ba_live.specs.Books.{Expects, Forgets, LeavesAll, LeavesAsked, Opens, asked_at, many_open, open_at, open_in, unless_of}
use Rattle.ba_live.specs.Limits.{most_open, most_open_asks}
use Rattle.ba_target.specs.Names.{Serves}
use Rattle.ba_live.specs.Steps.{Stays}
use Rattle.ba_live.specs.Wellformed.{AllBefore, IsAsker, IsListed, IsQuestion, IsServable, IsSound}
use Rattle.ba_live.specs.declared.live.Live.{Live}
use Rattle.ba_live.specs.declared.open.Asked.{Asked}
use Rattle.ba_live.specs.declared.open.Open.{Open}

-- ---- what has to be shown

-- the question stands in its request's lines
pub record Stands (it : Live) (line : ℕ) (question : Asked) : Type 0 where
  pub asker : Open
  pub is_open : open_at it question.name ≡ Some asker
  pub listed : Contains asker.lines line

pub record Shown (policy : Policy) (it : Live) : Type 0 where
  pub few : many_open it.requests ≤ most_open
  pub askers : (name : List ℕ) (asker : Open) → open_at it name ≡ Some asker → IsAsker policy asker
  pub queries : (line : ℕ) (question : Asked) → asked_at it line ≡ Some question → IsQuery policy.schema (kinds_of policy.params) [] question.query
  pub stand : (line : ℕ) (question : Asked) → asked_at it line ≡ Some question → Stands it line question
  pub lines : (name : List ℕ) (asker : Open) → open_at it name ≡ Some asker → All (IsListed it name) asker.lines

pub sound_again : (old new : Live) → IsSound old → Stays old new → Shown old.policy new → IsSound new
sound_again old new sound stays shown =
    record {
      servable = subst IsServable (sym stays.policy) sound.servable;
      serves = subst (λ t. Serves t new.policy.schema) (sym stays.target) (subst (λ (p : Policy). Serves old.target p.schema) (sym stays.policy) sound.serves);
      budget = subst (λ b. b ≤ most_budget) (sym stays.budget) sound.budget;
      few = shown.few;
      askers = λ name asker is. subst (λ p. IsAsker p asker) (sym stays.policy) (shown.askers name asker is);
      questions = λ line question is.
          let stand = shown.stand line question is in
          record {
            query = subst (λ (p : Policy). IsQuery p.schema (kinds_of p.params) [] question.query) (sym stays.policy) (shown.queries line question is);
            asker = stand.asker;
            is_open = stand.is_open;
            listed = stand.listed;
          };
      lines = shown.lines;
    }

-- ---- nothing changes

pub leaves_sound : (old new : Live) → IsSound old → Stays old new → LeavesAll old new → many_open new.requests ≤ many_open old.requests → IsSound new
leaves_sound old new sound stays leaves many =
    sound_again old new sound stays
    (record {
      few = omega (arith, sound.few, many);
      askers = λ name asker is. sound.askers name asker (sym (leaves.requests.each name) ∙ is);
      queries = λ line question is. (sound.questions line question (sym (leaves.questions.each line) ∙ is)).query;
      stand = λ line question is.
          let it = sound.questions line question (sym (leaves.questions.each line) ∙ is) in
          record { asker = it.asker; is_open = leaves.requests.each question.name ∙ it.is_open; listed = it.listed };
      lines = λ name asker is.
          All-from_contains (IsListed new name) asker.lines
          (λ line there.
          let it = All-contains (IsListed old name) asker.lines line (sound.lines name asker (sym (leaves.requests.each name) ∙ is)) there in
          record { question = it.question; was_asked = leaves.questions.each line ∙ it.was_asked; name_is = it.name_is });
    })

-- ---- an open request changes, and no question

pub record Updates (name : List ℕ) (asker after : Open) (old new : Live) : Type 0 where
  pub was_open : open_at old name ≡ Some asker
  pub opens : Opens name (Some after) old.requests new.requests
  pub asked : LeavesAsked old.questions new.questions
  pub lines : after.lines ≡ asker.lines
  pub fits : IsAsker old.policy after

pub updates_sound : (name : List ℕ) (asker after : Open) (old new : Live) → IsSound old → Stays old new → Updates name asker after old new → many_open new.requests ≡ many_open old.requests → IsSound new
updates_sound name asker after old new sound stays updates many =
    sound_again old new sound stays
    (record {
      few = subst (λ n. n ≤ most_open) (sym many) sound.few;
      askers = λ other it is.
          elim (opened_at name (Some after) old.requests new.requests other it updates.opens is) [
            | this here now ↦ subst (IsAsker old.policy) (same_some after it now) updates.fits
            | that away was ↦ sound.askers other it was
          ];
      queries = λ line question is. (sound.questions line question (sym (updates.asked.each line) ∙ is)).query;
      stand = λ line question is. stands line question (sound.questions line question (sym (updates.asked.each line) ∙ is));
      lines = λ other it is.
          All-from_contains (IsListed new other) it.lines
          (λ line there.
          let listed = was_listed other it is line there in
          record { question = listed.question; was_asked = updates.asked.each line ∙ listed.was_asked; name_is = listed.name_is });
    })
  where
    stands : (line : ℕ) (question : Asked) → IsQuestion old line question → Stands new line question
    stands line question it = by (bytes_eq name question.name) refl
      where
        by : (b : Bool) → bytes_eq name question.name ≡ b → Stands new line question
        by false away = record { asker = it.asker; is_open = opens_away name (Some after) old.requests new.requests question.name updates.opens away ∙ it.is_open; listed = it.listed }
        by true here =
            record {
              asker = after;
              is_open = updates.opens.each question.name ∙ ap (λ b. cond b (Some after) (open_in old.requests question.name)) here;
              listed = subst (λ lines. Contains lines line) (sym (updates.lines ∙ ap (λ (o : Open). o.lines) (same_some asker it.asker (sym updates.was_open ∙ (ap (open_at old) (bytes_equal name question.name here) ∙ it.is_open))))) it.listed;
            }

    was_listed : (other : List ℕ) (it : Open) → open_at new other ≡ Some it → (line : ℕ) → Contains it.lines line → IsListed old other line
    was_listed other it is line there =
        elim (opened_at name (Some after) old.requests new.requests other it updates.opens is) [
          | this here now ↦
              All-contains (IsListed old other) asker.lines line (sound.lines other asker (subst (λ n. open_at old n ≡ Some asker) here updates.was_open))
              (subst (λ lines. Contains lines line) (ap (λ (o : Open). o.lines) (sym (same_some after it now)) ∙ updates.lines) there)
          | that away was ↦ All-contains (IsListed old other) it.lines line (sound.lines other it was) there
        ]

-- ---- a request begins

pub record Starts (name : List ℕ) (context : Context) (old new : Live) : Type 0 where
  pub free : open_at old name ≡ None
  pub opens : Opens name (Some (new_open context)) old.requests new.requests
  pub asked : LeavesAsked old.questions new.questions
  pub fits : ContextFits (kinds_of old.policy.params) context
  pub few : many_open new.requests ≤ most_open

new_fits : (policy : Policy) (context : Context) → ContextFits (kinds_of policy.params) context → IsAsker policy (new_open context)
new_fits policy context fits = record { context = fits; trace = All-nil (RecordFits policy); few = omega arith }

pub starts_sound : (name : List ℕ) (context : Context) (old new : Live) → IsSound old → Stays old new → Starts name context old new → IsSound new
starts_sound name context old new sound stays starts =
    sound_again old new sound stays
    (record {
      few = starts.few;
      askers = λ other it is.
          elim (opened_at name (Some (new_open context)) old.requests new.requests other it starts.opens is) [
            | this here now ↦ subst (IsAsker old.policy) (same_some (new_open context) it now) (new_fits old.policy context starts.fits)
            | that away was ↦ sound.askers other it was
          ];
      queries = λ line question is. (sound.questions line question (sym (starts.asked.each line) ∙ is)).query;
      stand = λ line question is. stands line question (sound.questions line question (sym (starts.asked.each line) ∙ is));
      lines = λ other it is.
          elim (opened_at name (Some (new_open context)) old.requests new.requests other it starts.opens is) [
            | this here now ↦ subst (λ (o : Open). All (IsListed new other) o.lines) (same_some (new_open context) it now) (All-nil (IsListed new other))
            | that away was ↦
                All-from_contains (IsListed new other) it.lines
                (λ line there.
                let listed = All-contains (IsListed old other) it.lines line (sound.lines other it was) there in
                record { question = listed.question; was_asked = starts.asked.each line ∙ listed.was_asked; name_is = listed.name_is })
          ];
    })
  where
    stands : (line : ℕ) (question : Asked) → IsQuestion old line question → Stands new line question
    stands line question it = by (bytes_eq name question.name) refl
      where
        by : (b : Bool) → bytes_eq name question.name ≡ b → Stands new line question
        by false away = record { asker = it.asker; is_open = opens_away name (Some (new_open context)) old.requests new.requests question.name starts.opens away ∙ it.is_open; listed = it.listed }
        by true here =
            absurd (none_some it.asker (open_at old question.name) (sym (ap (open_at old) (bytes_equal name question.name here)) ∙ starts.free) it.is_open)

-- ---- a question may be told

pub record Notes (line : ℕ) (name : List ℕ) (query : Query) (asker : Open) (old new : Live) : Type 0 where
  pub was_open : open_at old name ≡ Some asker
  pub opens : Opens name (Some (with_line line asker)) old.requests new.requests
  pub fresh : asked_at old line ≡ None
  pub expects : Expects line (Some (record { name = name; query = query })) old.questions new.questions
  pub fits : IsQuery old.policy.schema (kinds_of old.policy.params) [] query
  pub few : asker.asks + 1 ≤ most_open_asks

asked_fits : (policy : Policy) (line : ℕ) (asker : Open) → IsAsker policy asker → asker.asks + 1 ≤ most_open_asks → IsAsker policy (with_line line asker)
asked_fits policy line asker fits few = record { context = fits.context; trace = fits.trace; few = few }

pub notes_sound : (line : ℕ) (name : List ℕ) (query : Query) (asker : Open) (old new : Live) → IsSound old → Stays old new → Notes line name query asker old new → many_open new.requests ≡ many_open old.requests → IsSound new
notes_sound line name query asker old new sound stays notes many =
    sound_again old new sound stays
    (record {
      few = subst (λ n. n ≤ most_open) (sym many) sound.few;
      askers = λ other it is.
          elim (opened_at name (Some (with_line line asker)) old.requests new.requests other it notes.opens is) [
            | this here now ↦ subst (IsAsker old.policy) (same_some (with_line line asker) it now) (asked_fits old.policy line asker (sound.askers name asker notes.was_open) notes.few)
            | that away was ↦ sound.askers other it was
          ];
      queries = λ other question is.
          elim (asked_after line (Some asked) old.questions new.questions other question notes.expects is) [
            | this here now ↦ subst (λ (q : Asked). IsQuery old.policy.schema (kinds_of old.policy.params) [] q.query) (same_some asked question now) notes.fits
            | that away was ↦ (sound.questions other question was).query
          ];
      stand = λ other question is.
          elim (asked_after line (Some asked) old.questions new.questions other question notes.expects is) [
            | this here now ↦
                subst (λ (l : ℕ). Stands new l question) here
                (subst (λ (q : Asked). Stands new line q) (same_some asked question now)
                (record { asker = with_line line asker; is_open = opens_here name (Some (with_line line asker)) old.requests new.requests notes.opens; listed = Contains-push asker.lines line }))
            | that away was ↦ stands other question (sound.questions other question was)
          ];
      lines = λ other it is.
          elim (opened_at name (Some (with_line line asker)) old.requests new.requests other it notes.opens is) [
            | this here now ↦
                subst (λ (o : Open). All (IsListed new other) o.lines) (same_some (with_line line asker) it now)
                (subst (λ (n : List ℕ). All (IsListed new n) (asker.lines ++ line ∷ [])) here own)
            | that away was ↦ All-from_contains (IsListed new other) it.lines (λ l there. kept other l (All-contains (IsListed old other) it.lines l (sound.lines other it was) there))
          ];
    })
  where
    asked : Asked
    asked = record { name = name; query = query }

    kept : (other : List ℕ) (l : ℕ) → IsListed old other l → IsListed new other l
    kept other l listed =
        record {
          question = listed.question;
          was_asked = expects_away line (Some asked) old.questions new.questions l notes.expects (λ same. none_some listed.question (asked_at old l) (sym (ap (asked_at old) same) ∙ notes.fresh) listed.was_asked) ∙ listed.was_asked;
          name_is = listed.name_is;
        }

    own : All (IsListed new name) (asker.lines ++ line ∷ [])
    own =
        All-from_contains (IsListed new name) (asker.lines ++ line ∷ [])
        (λ l there.
        elim (Contains-push_cases asker.lines line l there) [
          | inl earlier ↦ kept name l (All-contains (IsListed old name) asker.lines l (sound.lines name asker notes.was_open) earlier)
          | inr same ↦ subst (IsListed new name) same (record { question = asked; was_asked = expects_here line (Some asked) old.questions new.questions notes.expects; name_is = refl })
        ])

    stands : (other : ℕ) (question : Asked) → IsQuestion old other question → Stands new other question
    stands other question it = by (bytes_eq name question.name) refl
      where
        by : (b : Bool) → bytes_eq name question.name ≡ b → Stands new other question
        by false away = record { asker = it.asker; is_open = opens_away name (Some (with_line line asker)) old.requests new.requests question.name notes.opens away ∙ it.is_open; listed = it.listed }
        by true here =
            record {
              asker = with_line line asker;
              is_open = notes.opens.each question.name ∙ ap (λ b. cond b (Some (with_line line asker)) (open_in old.requests question.name)) here;
              listed = Contains-append_left asker.lines (line ∷ []) other
                  (subst (λ (o : Open). Contains o.lines other) (same_some it.asker asker (sym it.is_open ∙ (sym (ap (open_at old) (bytes_equal name question.name here)) ∙ notes.was_open))) it.listed);
            }

-- ---- rows are told

pub record Records (told : ℕ) (question : Asked) (asker : Open) (entries : List TraceEntry) (old new : Live) : Type 0 where
  pub was_asked : asked_at old told ≡ Some question
  pub was_open : open_at old question.name ≡ Some asker
  pub opens : Opens question.name (Some (with_told told entries asker)) old.requests new.requests
  pub expects : Expects told None old.questions new.questions
  pub fits : All (RecordFits old.policy) entries

told_fits : (policy : Policy) (told : ℕ) (entries : List TraceEntry) (asker : Open) → IsAsker policy asker → All (RecordFits policy) entries → IsAsker policy (with_told told entries asker)
told_fits policy told entries asker fits more = record { context = fits.context; trace = All-append (RecordFits policy) asker.trace entries fits.trace more; few = fits.few }

pub records_sound : (told : ℕ) (question : Asked) (asker : Open) (entries : List TraceEntry) (old new : Live) → IsSound old → Stays old new → Records told question asker entries old new → many_open new.requests ≡ many_open old.requests → IsSound new
records_sound told question asker entries old new sound stays records many =
    sound_again old new sound stays
    (record {
      few = subst (λ n. n ≤ most_open) (sym many) sound.few;
      askers = λ other it is.
          elim (opened_at question.name (Some after) old.requests new.requests other it records.opens is) [
            | this here now ↦ subst (IsAsker old.policy) (same_some after it now) (told_fits old.policy told entries asker (sound.askers question.name asker records.was_open) records.fits)
            | that away was ↦ sound.askers other it was
          ];
      queries = λ line other is.
          elim (asked_after told None old.questions new.questions line other records.expects is) [
            | this here now ↦ absurd (none_some other None refl now)
            | that away was ↦ (sound.questions line other was).query
          ];
      stand = λ line other is.
          elim (asked_after told None old.questions new.questions line other records.expects is) [
            | this here now ↦ absurd (none_some other None refl now)
            | that away was ↦ stands line other (sound.questions line other was) away
          ];
      lines = λ name it is.
          elim (opened_at question.name (Some after) old.requests new.requests name it records.opens is) [
            | this here now ↦
                subst (λ (o : Open). All (IsListed new name) o.lines) (same_some after it now)
                (subst (λ (n : List ℕ). All (IsListed new n) (without told asker.lines)) here own)
            | that away was ↦ All-from_contains (IsListed new name) it.lines (λ l there. others name away l (All-contains (IsListed old name) it.lines l (sound.lines name it was) there))
          ];
    })
  where
    after : Open
    after = with_told told entries asker

    kept : (name : List ℕ) (l : ℕ) → (told ≡ l → ⊥) → IsListed old name l → IsListed new name l
    kept name l away listed = record { question = listed.question; was_asked = expects_away told None old.questions new.questions l records.expects away ∙ listed.was_asked; name_is = listed.name_is }

    own : All (IsListed new question.name) (without told asker.lines)
    own =
        All-from_contains (IsListed new question.name) (without told asker.lines)
        (λ l there.
        kept question.name l (λ same. without_not told asker.lines (subst (Contains (without told asker.lines)) (sym same) there))
        (All-contains (IsListed old question.name) asker.lines l (sound.lines question.name asker records.was_open) (without_within told asker.lines l there)))

    others : (name : List ℕ) → bytes_eq question.name name ≡ false → (l : ℕ) → IsListed old name l → IsListed new name l
    others name away l listed =
        kept name l
        (λ same.
        let mine : question ≡ listed.question = same_some question listed.question (sym records.was_asked ∙ (ap (asked_at old) same ∙ listed.was_asked)) in
        let names : question.name ≡ name = ap (λ (q : Asked). q.name) mine ∙ listed.name_is in
        both (bytes_eq question.name name) (subst (λ n. bytes_eq question.name n ≡ true) names (bytes_same question.name)) away)
        listed
      where
        both : (b : Bool) → b ≡ true → b ≡ false → ⊥
        both b t f = cc

    stands : (line : ℕ) (other : Asked) → IsQuestion old line other → (told ≡ line → ⊥) → Stands new line other
    stands line other it off = by (bytes_eq question.name other.name) refl
      where
        by : (b : Bool) → bytes_eq question.name other.name ≡ b → Stands new line other
        by false away = record { asker = it.asker; is_open = opens_away question.name (Some after) old.requests new.requests other.name records.opens away ∙ it.is_open; listed = it.listed }
        by true here =
            record {
              asker = after;
              is_open = records.opens.each other.name ∙ ap (λ b. cond b (Some after) (open_in old.requests other.name)) here;
              listed = without_has told asker.lines line
                  (subst (λ (o : Open). Contains o.lines line) (same_some it.asker asker (sym it.is_open ∙ (sym (ap (open_at old) (bytes_equal question.name other.name here)) ∙ records.was_open))) it.listed)
                  off;
            }

-- ---- a request ends

pub record Closes (name : List ℕ) (asker : Open) (old new : Live) : Type 0 where
  pub was_open : open_at old name ≡ Some asker
  pub closes : Opens name None old.requests new.requests
  pub forgets : Forgets name old.questions new.questions

-- what may still be told is of another request
still_asked : (name : List ℕ) (was is : Option Asked) (question : Asked) → is ≡ unless_of name was → is ≡ Some question → (was ≡ Some question) × (bytes_eq name question.name ≡ false)
still_asked name None is question e has = absurd (none_some question is e has)
still_asked name (Some it) is question e has = by (bytes_eq name it.name) refl (sym e ∙ has)
  where
    by : (b : Bool) → bytes_eq name it.name ≡ b → cond b None (Some it) ≡ Some question → (Some it ≡ Some question) × (bytes_eq name question.name ≡ false)
    by true here now = absurd (none_some question None refl now)
    by false away now = (now, subst (λ (q : Asked). bytes_eq name q.name ≡ false) (same_some it question now) away)

pub closes_sound : (name : List ℕ) (asker : Open) (old new : Live) → IsSound old → Stays old new → Closes name asker old new → many_open new.requests ≤ many_open old.requests → IsSound new
closes_sound name asker old new sound stays closes many =
    sound_again old new sound stays
    (record {
      few = omega (arith, sound.few, many);
      askers = λ other it is.
          elim (opened_at name None old.requests new.requests other it closes.closes is) [
            | this here now ↦ absurd (none_some it None refl now)
            | that away was ↦ sound.askers other it was
          ];
      queries = λ line question is. (sound.questions line question (still line question is).0).query;
      stand = λ line question is.
          let it = sound.questions line question (still line question is).0 in
          record { asker = it.asker; is_open = opens_away name None old.requests new.requests question.name closes.closes (still line question is).1 ∙ it.is_open; listed = it.listed };
      lines = λ other it is.
          elim (opened_at name None old.requests new.requests other it closes.closes is) [
            | this here now ↦ absurd (none_some it None refl now)
            | that away was ↦ All-from_contains (IsListed new other) it.lines (λ l there. kept other away l (All-contains (IsListed old other) it.lines l (sound.lines other it was) there))
          ];
    })
  where
    still : (line : ℕ) (question : Asked) → asked_at new line ≡ Some question → (asked_at old line ≡ Some question) × (bytes_eq name question.name ≡ false)
    still line question is = still_asked name (asked_at old line) (asked_at new line) question (closes.forgets.each line) is

    kept : (other : List ℕ) → bytes_eq name other ≡ false → (l : ℕ) → IsListed old other l → IsListed new other l
    kept other away l listed =
        record {
          question = listed.question;
          was_asked = closes.forgets.each l ∙ (ap (unless_of name) listed.was_asked ∙ ap (λ b. cond b None (Some listed.question)) (subst (λ n. bytes_eq name n ≡ false) (sym listed.name_is) away));
          name_is = listed.name_is;
        }

-- ---- earlier lines

pub before_more : (next : ℕ) (it : Live) → AllBefore next it → AllBefore (next + 1) it
before_more next it before = record { each = λ line question is. omega (arith, before.each line question is) }

pub before_leaves : (next : ℕ) (old new : Live) → LeavesAsked old.questions new.questions → AllBefore next old → AllBefore next new
before_leaves next old new leaves before = record { each = λ line question is. before.each line question (sym (leaves.each line) ∙ is) }

pub before_notes : (line : ℕ) (asked : Asked) (old new : Live) → Expects line (Some asked) old.questions new.questions → AllBefore line old → AllBefore (line + 1) new
before_notes line asked old new expects before =
    record {
      each = λ other question is.
          elim (asked_after line (Some asked) old.questions new.questions other question expects is) [
            | this here now ↦ omega (arith, here)
            | that away was ↦ omega (arith, before.each other question was)
          ];
    }

pub before_records : (next told : ℕ) (old new : Live) → Expects told None old.questions new.questions → AllBefore next old → AllBefore next new
before_records next told old new expects before =
    record {
      each = λ line question is.
          elim (asked_after told None old.questions new.questions line question expects is) [
            | this here now ↦ absurd (none_some question None refl now)
            | that away was ↦ before.each line question was
          ];
    }

pub before_closes : (next : ℕ) (name : List ℕ) (old new : Live) → Forgets name old.questions new.questions → AllBefore next old → AllBefore next new
before_closes next name old new forgets before =
    record { each = λ line question is. before.each line question (still_asked name (asked_at old line) (asked_at new line) question (forgets.each line) is).0 }
