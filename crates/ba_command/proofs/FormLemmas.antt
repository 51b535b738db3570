-- What `clap`'s clauses say of the commands.
use Rattle.std.proofs.Common.{◌≡◌, ◌≢◌, ◌∙◌, inl, inr, refl, sym, ap, subst, List, [], ◌∷◌, codes, true, Option, Result, Err}
use Rattle.clap.specs.Faults.{fault_of, is_simple_and_free}
use Rattle.clap.specs.Kinds.{Kinds}
use Rattle.clap.specs.Matches.{first_value, found_of}
use Rattle.clap.specs.Simple.{App, HasMatchesOf, is_simple, matches_of}
use Rattle.clap.specs.Walk.{Text, first_of, rows_of}
use Rattle.clap.specs.Words.{HasKind, kind_of}
use Rattle.clap.specs.declared.ArgMatches.{ArgMatches}
use Rattle.clap.specs.declared.Error.{Error}
use Rattle.clap.specs.declared.error.ErrorKind.TheVariants.{OutOfMemory}
use Rattle.clap.proofs.WalkLemmas.{first_value-rows}
use Rattle.ba_command.specs.Words.{audit_app, audit_from, audit_of, check_app, check_from, check_of, gen_app, gen_from, gen_of, run_app, run_from, run_of, store_app, store_from, store_of, unless_fault}
use Rattle.ba_command.specs.Deciding.{decide_app, decide_from, decide_of}
use Rattle.ba_command.specs.declared.command.WordsFault.{WordsFault}
use Rattle.ba_command.specs.declared.command.WordsFault.TheVariants.{NoForm}
use Rattle.ba_model.specs.Readings.{Gives}
use Rattle.ba_model.specs.declared.failure.Failure.{Failure}
use Rattle.ba_model.specs.declared.failure.Failure.TheVariants.{NoMemory, Fault}

-- ---- any command

-- two texts' values give one result where they are the same by each name
abbrev AreValues : {X : Type 0} → ((Text → Option Text) → Result X WordsFault) → Type 0
AreValues from = (f g : Text → Option Text) → ((id : Text) → f id ≡ g id) → from f ≡ from g

-- where `clap` finds no fault, its matches are those of the words
form_reads : {X : Type 0} (known app : App) (from : (Text → Option Text) → Result X WordsFault) (words : List Text) (m : ArgMatches) → is_simple known ≡ true → AreValues from → app ≡ known → HasMatchesOf app words m → fault_of app words ≡ []
    → from (first_value (found_of m)) ≡ unless_fault (fault_of known words) (from (λ id. first_of id (matches_of known words)))
form_reads known app from words m plain same is has none =
    let rows : rows_of (found_of m) ≡ matches_of known words = (subst (λ z. HasMatchesOf z words m) is has plain).0 in
    let first : (id : Text) → first_value (found_of m) id ≡ first_of id (matches_of known words) = λ id. first_value-rows (found_of m) id
    ∙ ap (first_of id) rows in
    same (first_value (found_of m)) (λ id. first_of id (matches_of known words)) first
    ∙ ap (λ k. unless_fault k (from (λ id. first_of id (matches_of known words)))) (sym (subst (λ z. fault_of z words ≡ []) is none))

faulty : {X : Type 0} (kinds : Kinds) (e : Error) → kind_of e ≢ OutOfMemory → HasKind kinds e → (found : Result X WordsFault) → unless_fault kinds found ≡ Err NoForm
faulty kinds e other (inl h) found = absurd (other h)
faulty [] e other (inr h) found = absurd h
faulty (k ∷ ks) e other (inr h) found = refl

-- a fault of `clap` is that the words are no form, or want of memory
form_refuses : {X : Type 0} (known app : App) (words : List Text) (e : Error) (x : Failure WordsFault) (found : Result X WordsFault) → app ≡ known → HasKind (fault_of app words) e
    → (x ≡ Fault NoForm → kind_of e ≢ OutOfMemory)
    → Gives (Err x) (unless_fault (fault_of known words) found)
form_refuses known app words e NoMemory found is has other = tt
form_refuses known app words e (Fault NoForm) found is has other = faulty (fault_of known words) e (other refl) (subst (λ z. HasKind (fault_of z words) e) is has) found

-- ---- run

run_plain : is_simple run_app ≡ true
run_plain = refl

pub run_free : is_simple_and_free run_app ≡ true
run_free = refl

run_values : AreValues run_from
run_values f g same = rw (
  same (codes "schema"),
  same (codes "policy"),
  same (codes "tables"),
  same (codes "script"),
  same (codes "load"),
  same (codes "proofs"),
  same (codes "workers"),
  same (codes "budget"),
  same (codes "orders"),
) refl

pub run_ok : (app : App) (words : List Text) (m : ArgMatches) → app ≡ run_app → HasMatchesOf app words m → fault_of app words ≡ []
    → run_from (first_value (found_of m)) ≡ run_of words
unfolding run_of
run_ok app words m is has none = form_reads run_app app run_from words m run_plain run_values is has none

pub run_refused : (app : App) (words : List Text) (e : Error) (x : Failure WordsFault) → app ≡ run_app → HasKind (fault_of app words) e
    → (x ≡ Fault NoForm → kind_of e ≢ OutOfMemory)
    → Gives (Err x) (run_of words)
unfolding run_of
run_refused app words e x is has other = form_refuses run_app app words e x _ is has other

-- ---- store

store_plain : is_simple store_app ≡ true
store_plain = refl

pub store_free : is_simple_and_free store_app ≡ true
store_free = refl

store_values : AreValues store_from
store_values f g same = rw (
  same (codes "schema"),
  same (codes "policy"),
  same (codes "tables"),
  same (codes "script"),
  same (codes "workers"),
  same (codes "budget"),
  same (codes "orders"),
) refl

pub store_ok : (app : App) (words : List Text) (m : ArgMatches) → app ≡ store_app → HasMatchesOf app words m → fault_of app words ≡ []
    → store_from (first_value (found_of m)) ≡ store_of words
unfolding store_of
store_ok app words m is has none = form_reads store_app app store_from words m store_plain store_values is has none

pub store_refused : (app : App) (words : List Text) (e : Error) (x : Failure WordsFault) → app ≡ store_app → HasKind (fault_of app words) e
    → (x ≡ Fault NoForm → kind_of e ≢ OutOfMemory)
    → Gives (Err x) (store_of words)
unfolding store_of
store_refused app words e x is has other = form_refuses store_app app words e x _ is has other

-- ---- check

check_plain : is_simple check_app ≡ true
check_plain = refl

pub check_free : is_simple_and_free check_app ≡ true
check_free = refl

check_values : AreValues check_from
check_values f g same = rw (same (codes "schema"), same (codes "policy"), same (codes "proof")) refl

pub check_ok : (app : App) (words : List Text) (m : ArgMatches) → app ≡ check_app → HasMatchesOf app words m → fault_of app words ≡ []
    → check_from (first_value (found_of m)) ≡ check_of words
unfolding check_of
check_ok app words m is has none = form_reads check_app app check_from words m check_plain check_values is has none

pub check_refused : (app : App) (words : List Text) (e : Error) (x : Failure WordsFault) → app ≡ check_app → HasKind (fault_of app words) e
    → (x ≡ Fault NoForm → kind_of e ≢ OutOfMemory)
    → Gives (Err x) (check_of words)
unfolding check_of
check_refused app words e x is has other = form_refuses check_app app words e x _ is has other

-- ---- gen

gen_plain : is_simple gen_app ≡ true
gen_plain = refl

pub gen_free : is_simple_and_free gen_app ≡ true
gen_free = refl

gen_values : AreValues gen_from
gen_values f g same = rw (same (codes "seed"), same (codes "requests"), same (codes "workers"), same (codes "print")) refl

pub gen_ok : (app : App) (words : List Text) (m : ArgMatches) → app ≡ gen_app → HasMatchesOf app words m → fault_of app words ≡ []
    → gen_from (first_value (found_of m)) ≡ gen_of words
unfolding gen_of
gen_ok app words m is has none = form_reads gen_app app gen_from words m gen_plain gen_values is has none

pub gen_refused : (app : App) (words : List Text) (e : Error) (x : Failure WordsFault) → app ≡ gen_app → HasKind (fault_of app words) e
    → (x ≡ Fault NoForm → kind_of e ≢ OutOfMemory)
    → Gives (Err x) (gen_of words)
unfolding gen_of
gen_refused app words e x is has other = form_refuses gen_app app words e x _ is has other

-- ---- audit

audit_plain : is_simple audit_app ≡ true
audit_plain = refl

pub audit_free : is_simple_and_free audit_app ≡ true
audit_free = refl

audit_values : AreValues audit_from
audit_values f g same = rw (same (codes "schema"), same (codes "policy"), same (codes "tables"), same (codes "script"), same (codes "output")) refl

pub audit_ok : (app : App) (words : List Text) (m : ArgMatches) → app ≡ audit_app → HasMatchesOf app words m → fault_of app words ≡ []
    → audit_from (first_value (found_of m)) ≡ audit_of words
unfolding audit_of
audit_ok app words m is has none = form_reads audit_app app audit_from words m audit_plain audit_values is has none

pub audit_refused : (app : App) (words : List Text) (e : Error) (x : Failure WordsFault) → app ≡ audit_app → HasKind (fault_of app words) e
    → (x ≡ Fault NoForm → kind_of e ≢ OutOfMemory)
    → Gives (Err x) (audit_of words)
unfolding audit_of
audit_refused app words e x is has other = form_refuses audit_app app words e x _ is has other

-- ---- decide

decide_plain : is_simple decide_app ≡ true
decide_plain = refl

pub decide_free : is_simple_and_free decide_app ≡ true
decide_free = refl

decide_values : AreValues decide_from
decide_values f g same = rw (same (codes "schema"), same (codes "policy"), same (codes "load"), same (codes "budget"), same (codes "evidence"), same (codes "database"), same (codes "namespace")) refl

pub decide_ok : (app : App) (words : List Text) (m : ArgMatches) → app ≡ decide_app → HasMatchesOf app words m → fault_of app words ≡ []
    → decide_from (first_value (found_of m)) ≡ decide_of words
unfolding decide_of
decide_ok app words m is has none = form_reads decide_app app decide_from words m decide_plain decide_values is has none

pub decide_refused : (app : App) (words : List Text) (e : Error) (x : Failure WordsFault) → app ≡ decide_app → HasKind (fault_of app words) e
    → (x ≡ Fault NoForm → kind_of e ≢ OutOfMemory)
    → Gives (Err x) (decide_of words)
unfolding decide_of
decide_refused app words e x is has other = form_refuses decide_app app words e x _ is has other
