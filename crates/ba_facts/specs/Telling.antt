-- A web to which a lesson is told.
use Rattle.std.specs.Prelude.{◌≡◌, List, ◌++◌, ◌∷◌, []}
use Rattle.ba_model.specs.declared.query.Op.{Op}
use Rattle.ba_facts.specs.Known.{Known}
use Rattle.ba_facts.specs.Knowing.{IsThere, LessonIsThere}
use Rattle.ba_facts.specs.Webs.{IsWeb}
use Rattle.ba_facts.specs.declared.term.Lesson.{Lesson}
use Rattle.ba_facts.specs.declared.term.Lesson.TheVariants.{Holds}
use Rattle.ba_facts.specs.declared.term.Sort.{Sort}
use Rattle.ba_facts.specs.declared.term.Term.{Term}
use Rattle.ba_facts.specs.declared.web.Web.{Web}

-- the comparison as a lesson
abbrev pub atom : Op → Term → Term → Lesson
atom op a b = Holds (record { op = op; left = a; right = b })

-- the lesson was learned too
abbrev pub told : Known → Lesson → Known
told k lesson = record k { learned = k.learned ++ lesson ∷ [] }

-- the web says what is known, with these unknowns, and both terms are there
pub record AreThere (w : Web) (unknowns : List Sort) (a b : Term) : Type 0 where
  pub known : Known
  pub web : IsWeb known w
  pub unknowns_are : known.unknowns ≡ unknowns
  pub left : IsThere known a
  pub right : IsThere known b

-- the web says what is known, with these unknowns, and the lesson's terms are there
pub record CanTell (w : Web) (unknowns : List Sort) (lesson : Lesson) : Type 0 where
  pub known : Known
  pub web : IsWeb known w
  pub unknowns_are : known.unknowns ≡ unknowns
  pub there : LessonIsThere known lesson
