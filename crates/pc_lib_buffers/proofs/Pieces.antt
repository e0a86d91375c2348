-- From the byte at which a line points to the piece that starts there.
use Rattle.std.proofs.Common.{ℕ, refl, sym, subst}
use Rattle.pc_base.specs.Lists.{Text}
use Rattle.pc_lib_buffers.specs.{Ends.Ending, Finding.{StartsAt, Stretches}, Places.PointsAt, declared.place.Place.Place, declared.start.Start.Start}

pub pointed : (number : ℕ) (name text line : Text) (Ends : Ending) (start : Start) (place : Place) → StartsAt number name text line start → Stretches Ends text start place → PointsAt number name text Ends line place
pointed number name text line Ends start place is ends =
    subst (PointsAt number name text Ends line) (sym ends.2) (record {
      number_is = is.number_is;
      within = is.within;
      line_is = is.line_is;
      column_is = is.column_is;
      points = is.points;
      ends = ends.1;
      end_line_is = refl;
      end_column_is = refl;
    })
