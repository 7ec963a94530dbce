use Rattle.std.proofs.Common.{◌≡◌, length, slice_index_or, true, sym, ap, subst, arith}
use Rattle.sg_base.specs.Path.{shared_len}
use Rattle.sg_base.proofs.Sharing.{shared_within_other}
use Rattle.sg_query.specs.declared.found.Found.{Found}
use Rattle.jv_instance.specs.declared.datum.JavaDatum.{JavaDatum}
use Rattle.jv_layout.specs.Fits.{fits, front_of}
use Rattle.jv_names.proofs.Along.{item_there, fits_shared, fitting_at, fitting_below}
use Rattle.jv_names.proofs.counting.fits_along.Goals as goal

pub fits_behind-requires-clause-within : goal.fits_behind-requires-clause-within
fits_behind-requires-clause-within c =
    let fs = c.args.paths.now in
    let o : Found JavaDatum = slice_index_or fs c.in-Some.j c.at.result in
    let there : o ≡ slice_index_or fs c.in-Some.j o = item_there fs c.in-Some.j c.at.result (fitting_below c.args.l.now fs c.args.fitting c.in-Some.j c.in-Some.is c.requires.fitting) in
    let len : c.shared_len.result ≡ shared_len o.path.steps c.at.result.path.steps = c.shared_len.ensures.len o c.at.result there c.at.ensures in
    omega (arith, len, shared_within_other o.path.steps c.at.result.path.steps, ap (λ (g : Found JavaDatum). length g.path.steps) c.path.view_is)

pub fits_behind-requires-clause-front : goal.fits_behind-requires-clause-front
fits_behind-requires-clause-front c =
    let fs = c.args.paths.now in
    let l = c.args.l.now in
    let o : Found JavaDatum = slice_index_or fs c.in-Some.j c.at.result in
    let there : o ≡ slice_index_or fs c.in-Some.j o = item_there fs c.in-Some.j c.at.result (fitting_below l fs c.args.fitting c.in-Some.j c.in-Some.is c.requires.fitting) in
    let s = c.shared_len.ensures in
    let fit : fits l o.path ≡ true = fitting_at l fs c.args.fitting c.in-Some.j c.in-Some.is c.requires.fitting o there in
    let front : fits l (front_of c.at.result.path c.shared_len.result) ≡ true =
    fits_shared l o.path c.at.result.path c.shared_len.result (s.start o c.at.result there c.at.ensures) (s.len o c.at.result there c.at.ensures) fit in
    subst (λ (g : Found JavaDatum). fits l (front_of g.path c.shared_len.result) ≡ true) (sym c.path.view_is) front
