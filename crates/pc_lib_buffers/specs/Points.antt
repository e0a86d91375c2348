-- The place at which a line points, among the texts of a call.
use Rattle.std.specs.Prelude.{ℕ, ◌≡◌, ◌⊎◌, codes}
use Rattle.pc_lib_buffers.specs.{Ends.{Ending, SpansTo, WordTo}, Places.{PointsAt, PointsNowhere, no_place}, declared.place.Place.Place, declared.beside.Beside.Beside, declared.beside.Beside.TheVariants.{Nothing, Derivation, Schedule}}
use Rattle.pc_base.specs.Lists.{Text}

-- A line and the place at which it points.
abbrev pub Pointing : Type 1
Pointing = Text → Place → Type 0

-- At no byte of any text.
abbrev pub PointsAway : Pointing
PointsAway line place = place ≡ no_place

-- At a byte of the text with this number and this name, with the end of the piece that starts there, or else elsewhere.
abbrev pub PointsInto : (number : ℕ) → (name text : Text) → Ending → Pointing → Pointing
PointsInto number name text Ends Else line place = PointsAt number name text Ends line place ⊎ (PointsNowhere name text line × Else line place)

-- At the first byte of the span at which the source is refused, or else elsewhere.
abbrev pub InSource : Text → Pointing → Pointing
InSource source = PointsInto 1 (codes "source") source (SpansTo source)

-- At the first byte of a word of the schedule, or nowhere.
abbrev pub InSchedule : Text → Pointing
InSchedule schedule = PointsInto 2 (codes "schedule") schedule (WordTo schedule) PointsAway

-- Into the source, or nowhere.
abbrev pub PointsIntoSource : Text → Pointing
PointsIntoSource source = InSource source PointsAway

-- Into the source, or else into the schedule, or nowhere.
abbrev pub PointsIntoBoth : (source schedule : Text) → Pointing
PointsIntoBoth source schedule = InSource source (InSchedule schedule)

-- ---- whatever is beside the source

abbrev pub PointsBeside : Beside → Pointing
PointsBeside Nothing = PointsAway
PointsBeside (Derivation derivation) = PointsAway
PointsBeside (Schedule schedule) = InSchedule schedule.now

abbrev pub Points : Text → Beside → Pointing
Points source beside = InSource source (PointsBeside beside)
