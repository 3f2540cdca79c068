mod LoadEnds
