use Rattle.image_cube.proofs.ImageOfCube.{each-saved, long-image}
use Rattle.image_cube.proofs.LeastOfCube.{saved-least}
use Rattle.image_cube.proofs.save.save_cube.Goals as goal

pub returns-clause-image : goal.returns-clause-image
returns-clause-image c =
    each-saved c.args.cube.now.schema c.args.cube.now.arena c.args.cube.now.root.0 c.args.cube.now.size c.args.cube.now.bag.few c.write_image.ensures.rising c.tell_tables.ensures c.write_image.result c.write_image.ensures.written

pub returns-clause-least : goal.returns-clause-least
returns-clause-least c = saved-least c.least_image_law.ensures.shared c.args.cube.now c.write_image.ensures.rising c.tell_tables.ensures c.write_image.result c.write_image.ensures.written

pub returns-clause-too_long : goal.returns-clause-too_long
returns-clause-too_long c = λ e h C. long-image c.args.cube.now.schema c.args.cube.now.arena c.args.cube.now.root.0 c.args.cube.now.size h C (c.write_image.ensures.too_long e)
