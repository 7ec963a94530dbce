-- The steps of types that are written.
use Rattle.std.proofs.Common.{◌≡◌, ℕ, List, Option, Result, Ok, Err, sym, subst}
use Rattle.sg_base.specs.declared.scope.Scope.{Scope}
use Rattle.sg_query.specs.declared.answer.Answer.{Answer}
use Rattle.sg_query.specs.declared.query.Query.{Query}
use Rattle.sg_reading.specs.declared.stop.Stop.{Stop}
use Rattle.sg_reading.specs.Reading.{done}
use Rattle.sg_reading.specs.Stop.{Reads}
use Rattle.sg_reading.proofs.Steps.{done_reads, memory_reads, then_ok, then_err, reading_steps}
use Rattle.jv_instance.specs.declared.datum.JavaDatum.{JavaDatum}
use Rattle.jv_instance.specs.declared.pred.JavaPred.{JavaPred}
use Rattle.jv_instance.specs.declared.type_base.TypeBase.TheVariants.{Boolean, Char, Int, Long, Void}
use Rattle.jv_layout.specs.Folder.{LayoutOf}
use Rattle.jv_tree.specs.declared.name.Name.{Name}
use Rattle.jv_tree.specs.declared.type_ref.Base.{Base}
use Rattle.jv_tree.specs.declared.type_ref.Base.TheVariants.{Boolean as IsBoolean, Char as IsChar, Int as IsInt, Long as IsLong, Void as IsVoid, Named as IsNamed}
use Rattle.jv_tree.specs.declared.type_ref.TypeRef.{TypeRef}
use Rattle.jv_tree.specs.TypeTree.{ids_of, base_tree, type_tree}
use Rattle.jv_names.specs.declared.reference.Reference.{Reference}
use Rattle.jv_names.specs.declared.written_type.WrittenType.{WrittenType}
use Rattle.jv_names.specs.Reference.{reference}
use Rattle.jv_names.specs.WrittenTypes.{plain_written, named_written, written_base, written_type}

module _ (reply : Query JavaPred → Option (Answer JavaDatum)) (l : LayoutOf) (names : List (List ℕ)) (file : ℕ) (bodies : List Scope) (ty : TypeRef) where
  by_base : (b : Base) (x : Result WrittenType (Stop (Query JavaPred))) → ty.base ≡ b → Reads reply (written_base l names file bodies ty.dims (base_tree b)) x → Reads reply (written_type l names file bodies (type_tree ty)) x
  unfolding written_type
  by_base b x e h = subst (λ (b : Base). Reads reply (written_base l names file bodies ty.dims (base_tree b)) x) (sym e) h

  module _ (w : WrittenType) where
    pub boolean_reads : ty.base ≡ IsBoolean → w ≡ plain_written Boolean ty.dims → Reads reply (written_type l names file bodies (type_tree ty)) (Ok w)
    boolean_reads e k = by_base IsBoolean (Ok w) e (done_reads reply (plain_written Boolean ty.dims) w (sym k))

    pub char_reads : ty.base ≡ IsChar → w ≡ plain_written Char ty.dims → Reads reply (written_type l names file bodies (type_tree ty)) (Ok w)
    char_reads e k = by_base IsChar (Ok w) e (done_reads reply (plain_written Char ty.dims) w (sym k))

    pub int_reads : ty.base ≡ IsInt → w ≡ plain_written Int ty.dims → Reads reply (written_type l names file bodies (type_tree ty)) (Ok w)
    int_reads e k = by_base IsInt (Ok w) e (done_reads reply (plain_written Int ty.dims) w (sym k))

    pub long_reads : ty.base ≡ IsLong → w ≡ plain_written Long ty.dims → Reads reply (written_type l names file bodies (type_tree ty)) (Ok w)
    long_reads e k = by_base IsLong (Ok w) e (done_reads reply (plain_written Long ty.dims) w (sym k))

    pub void_reads : ty.base ≡ IsVoid → w ≡ plain_written Void ty.dims → Reads reply (written_type l names file bodies (type_tree ty)) (Ok w)
    void_reads e k = by_base IsVoid (Ok w) e (done_reads reply (plain_written Void ty.dims) w (sym k))

  module _ (name : Name) (named : ty.base ≡ IsNamed name) where
    pub named_reads : (r : Reference) (x : Result WrittenType (Stop (Query JavaPred))) → Reads reply (reference l file bodies (ids_of name)) (Ok r)
        → Reads reply (done (named_written l names file (ids_of name) ty.dims r)) x → Reads reply (written_type l names file bodies (type_tree ty)) x
    named_reads r x g h = by_base (IsNamed name) x named (then_ok reply (reference l file bodies (ids_of name)) (λ r. done (named_written l names file (ids_of name) ty.dims r)) r x g h)

    pub reference_unknown : (e : Stop (Query JavaPred)) → Reads {U = Reference} reply (reference l file bodies (ids_of name)) (Err e) → Reads {U = WrittenType} reply (written_type l names file bodies (type_tree ty)) (Err e)
    reference_unknown e g = by_base (IsNamed name) (Err e) named (then_err reply (reference l file bodies (ids_of name)) (λ r. done (named_written l names file (ids_of name) ty.dims r)) e g)

pub ruleset written_type_steps = (reading_steps, boolean_reads, char_reads, int_reads, long_reads, void_reads, named_reads, reference_unknown)
