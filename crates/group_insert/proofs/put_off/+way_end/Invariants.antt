use Rattle.group_insert.proofs.put_off.+way_end.Given as goal

abbrev pub decreases-way_end : goal.decreases-way_end
decreases-way_end g l = l.between
