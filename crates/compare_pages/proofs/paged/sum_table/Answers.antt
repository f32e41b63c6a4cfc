use Rattle.std.proofs.Common.{◌≡◌, ◌≤◌, true, length, drop, sym, ap, ◌∙◌, subst, arith}
use Rattle.image.specs.Form.{known, head_lines, image_size}
use Rattle.image.specs.Layout.{image_shape}
use Rattle.image.specs.declared.Shape.{Shape}
use Rattle.machine.specs.Line.{line_count}
use Rattle.endtable.specs.Opened.{blank_counts}
use Rattle.endtable.specs.Picks.{picks_of, Filled}
use Rattle.endtable.proofs.Digits as digits
use Rattle.pages.proofs.OwnLaws as own
use Rattle.runs.proofs.PageLaws as pages
use Rattle.compare_pages.proofs.paged.sum_table.Goals as goal

pub size_of-whole-requires : goal.size_of-whole-requires
size_of-whole-requires c = c.requires.0

pub ending_picks-picks-requires : goal.ending_picks-picks-requires
ending_picks-picks-requires c = (c.requires.1, c.requires.2, c.requires.3.0)

pub ending_image-g-requires : goal.ending_image-g-requires
unfolding picks_of
ending_image-g-requires c = (
  c.requires.1,
  c.requires.2,
  subst (λ ps. Filled ps (line_count c.args.z)) (sym c.ending_picks-picks.ensures)
      (digits.digits_front c.args.counts (line_count c.args.z) c.loop-k.k (drop (line_count c.args.z) blank_counts) c.requires.3),
)

pub put_image-requires : goal.put_image-requires
put_image-requires c =
    let e : image_shape c.ending_image-g.result ≡ own.owned c.args.z = ap image_shape c.ending_image-g.ensures ∙ pages.picked_shape _ _ c.args.z in
    let m : image_size c.args.z ≤ 846 = own.size_few c.args.z c.requires.0 c.requires.1 c.requires.2 in
    subst (λ (x : Shape). (known x.form ≡ true) × ((x.n ≤ 64) × ((head_lines x ≤ 8) × (image_size x ≤ length c.loop-k.lent)))) (sym e)
    (c.requires.0, (c.requires.1, (omega (arith, c.requires.2, own.own_lines c.args.z), omega (arith, m, c.requires.4, c.loop-k.auto.lent, own.own_size c.args.z))))
