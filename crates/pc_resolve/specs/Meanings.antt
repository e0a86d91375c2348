-- The meanings of `pc_body_spec` that the meanings of the code represent.
use Rattle.pc_resolve.specs.{declared.meaning.Meaning.Meaning, declared.meaning.TypeMeaning.TypeMeaning}
use Rattle.pc_resolve.specs.declared.meaning.Meaning.TheVariants as m
use Rattle.pc_resolve.specs.declared.meaning.TypeMeaning.TheVariants as t
use Rattle.pc_body_spec.specs.Bodies as spec

abbrev pub meaning_view : Meaning → spec.Meaning
meaning_view (m.Local slot) = spec.local slot
meaning_view m.Field = spec.field
meaning_view m.Method = spec.method
meaning_view m.Nothing = spec.nothing

abbrev pub type_view : TypeMeaning → spec.TypeMeaning
type_view (t.Primitive e) = spec.primitive e
type_view (t.Created actor constructors) = spec.created actor constructors.now
type_view t.NoValue = spec.no_value
