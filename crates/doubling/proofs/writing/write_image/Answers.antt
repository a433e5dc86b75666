-- Sizes and groups make up the doubled image.
use Rattle.std.proofs.Common.{◌∙◌, arith}
use Rattle.doubling.proofs.Laying.{counts_few, image_laid}
use Rattle.doubling.proofs.writing.write_image.Goals as goal

pub overflow_mul-z : goal.overflow_mul-z
overflow_mul-z c = let few = rw (← c.requires.z_value.0) at (counts_few c.args.image.now c.requires.image_value) in omega (arith, few.0)

pub overflow_mul-z-2 : goal.overflow_mul-z-2
overflow_mul-z-2 c = let few = rw (← c.requires.z_value.0) at (counts_few c.args.image.now c.requires.image_value) in omega (arith, few.1)

pub overflow_mul-z-3 : goal.overflow_mul-z-3
overflow_mul-z-3 c = let few = rw (← c.requires.z_value.0) at (counts_few c.args.image.now c.requires.image_value) in omega (arith, few.2)

pub put_sizes-requires-clause-nets_bound : goal.put_sizes-requires-clause-nets_bound
put_sizes-requires-clause-nets_bound c =
    let few = rw (← c.requires.z_value.0) at (counts_few c.args.image.now c.requires.image_value) in
    (omega (arith, c.requires.size_value.1), omega (arith, few.0), omega (arith, few.1), omega (arith, few.2))

pub returns : goal.returns
returns c =
    let size = c.requires.size_value in
    rw (size.0, rw (size.0, c.requires.z_value.0) at c.put_sizes.ensures) at c.put_groups.ensures ∙ image_laid c.args.image.now c.args.d.now (rw size.0 at size.2)
