use Rattle.writer.proofs.+put_number.Given as goal

-- What falls is the number itself: a tenth part of it is left.
abbrev pub decreases-put_number : goal.decreases-put_number
decreases-put_number l = l.n
